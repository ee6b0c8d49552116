-- Bytes and refusals exclude each other. (The project's own.)
use Rattle.std.specs.Prelude.{ℕ, ◌≡◌, ◌+◌, List, length}
use Rattle.asm_lines.specs.Lines.{line_content}
use Rattle.line_bytes.specs.Pieces.{IsLine}
use Rattle.line_bytes.specs.Refusals.{IsBadIn}
use Rattle.line_bytes.specs.declared.piece.Tables.{Tables}
use Rattle.line_bytes.specs.declared.piece.Met.{Met}
use Rattle.line_bytes.specs.declared.refused.Refused.{Refused}
use Rattle.line_bytes.specs.declared.refused.Refused.TheVariants as refused
use Rattle.sys_forge.specs.Assembly.{Puts, none_met, IsRepeated, IsWanting}

-- behind the same lines with the same bytes, and with the same tables, no line has bytes of any spelling and is refused for what it
-- says, but for want of memory
abbrev pub LinesExcludeRefusal : Type 0
LinesExcludeRefusal = (t : Tables) (front : List (List ℕ)) (bytes : List ℕ) (met : Met) (line piece : List ℕ) (next : Met) (why : Refused)
    → Puts t 0 none_met front bytes met → IsLine t met (0x80101000 + length bytes) line piece next → IsBadIn (IsRepeated front) IsWanting t (0x80101000 + length bytes) (line_content line) why → why ≡ refused.OutOfMemory
