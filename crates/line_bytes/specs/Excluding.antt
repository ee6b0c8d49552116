-- Bytes and refusals exclude each other. (The project's own.)
use Rattle.std.specs.Prelude.{ℕ, ◌≡◌, List}
use Rattle.asm_lines.specs.Lines.{Content}
use Rattle.line_bytes.specs.Pieces.{IsPiece}
use Rattle.line_bytes.specs.Refusals.{Why, IsBadContent}
use Rattle.line_bytes.specs.declared.piece.Tables.{Tables}
use Rattle.line_bytes.specs.declared.piece.Met.{Met}
use Rattle.line_bytes.specs.declared.refused.Refused.{Refused}
use Rattle.line_bytes.specs.declared.refused.Refused.TheVariants as refused

-- never but for want of memory
abbrev pub Never : Why
Never name refused.OutOfMemory = Unit {0}
Never name refused.Line = ⊥
Never name refused.Range = ⊥

-- where a line stands and labels stand, what has bytes of any spelling is refused for no value and no operand of it
abbrev pub BytesExcludeRefusal : Type 0
BytesExcludeRefusal = (t : Tables) (met : Met) (at : ℕ) (content : Content) (piece : List ℕ) (next : Met) (why : Refused) → IsPiece t met at content piece next → IsBadContent Never Never t at content why → why ≡ refused.OutOfMemory
