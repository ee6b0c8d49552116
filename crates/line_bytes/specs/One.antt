-- What a line says has one made instruction, one piece of bytes and one reason to be refused. (The project's own.)
use Rattle.std.specs.Prelude.{ℕ, ◌≡◌, List, Option}
use Rattle.asm_lines.specs.Lines.{Content}
use Rattle.line_bytes.specs.Made.{IsMadeIn}
use Rattle.line_bytes.specs.Pieces.{IsPiece}
use Rattle.line_bytes.specs.Refusals.{IsBadContent}
use Rattle.line_bytes.specs.Excluding.{Never}
use Rattle.line_bytes.specs.declared.made.Made.{Made}
use Rattle.line_bytes.specs.declared.piece.Tables.{Tables}
use Rattle.line_bytes.specs.declared.piece.Met.{Met}
use Rattle.line_bytes.specs.declared.refused.Refused.TheVariants as refused

-- wherever labels stand, an instruction is one thing as bytes
abbrev pub MadeIsOne : Type 0
MadeIsOne = (content : Option Content) (m other : Option Made) → IsMadeIn content m → IsMadeIn content other → m ≡ other

-- where a line stands and labels stand, its bytes are one, and so is what is met behind it
abbrev pub PieceIsOne : Type 0
PieceIsOne = (t : Tables) (met : Met) (at : ℕ) (content : Content) (piece other : List ℕ) (next last : Met) → IsPiece t met at content piece next → IsPiece t met at content other last → (piece ≡ other) × (next ≡ last)

-- and it is refused for one reason
abbrev pub ReasonIsOne : Type 0
ReasonIsOne = (t : Tables) (at : ℕ) (content : Content) → IsBadContent Never Never t at content refused.Line → IsBadContent Never Never t at content refused.Range → ⊥
