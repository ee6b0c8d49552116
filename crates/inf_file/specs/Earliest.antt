-- The first line of an INF file that passes a test, among lines that may stand in any order and more than once.
use Rattle.std.specs.Prelude.{◌≡◌, ℕ, Bool, true, false, ◌&&◌, nat_lt, List, Option, None, Some, Contains, if◌then◌else◌}
use Rattle.std.specs.List.{fold, list_any}
use Rattle.inf_text.specs.Sections.{Line}

-- of two lines the one that stands first in the file
abbrev pub earlier : Option Line → Line → Option Line
earlier None line = Some line
earlier (Some best) line = if nat_lt line.number best.number then Some line else Some best

abbrev pub earlier_if : (Line → Bool) → Option Line → Line → Option Line
earlier_if test best line = if test line then earlier best line else best

unfoldable pub earliest : (Line → Bool) → List Line → Option Line
earliest test lines = fold (earlier_if test) None lines

-- a line among these passes, and none of a lesser number does
pub record IsEarliest (test : Line → Bool) (lines : List Line) (line : Line) : Type 0 where
  pub there : Contains lines line
  pub passes : test line ≡ true
  pub none_before : list_any (λ other. test other && nat_lt other.number line.number) lines ≡ false

abbrev pub HasNone : (Line → Bool) → List Line → Type 0
HasNone test lines = list_any test lines ≡ false

-- the first line that passes, and none only where none does
abbrev pub IsFirst : (Line → Bool) → List Line → Option Line → Type 0
IsFirst test lines None = HasNone test lines
IsFirst test lines (Some line) = IsEarliest test lines line

-- the first line that passes has this number
abbrev pub HasFirst : (Line → Bool) → List Line → ℕ → Type 0
HasFirst test lines n = (line : Line) × (line.number ≡ n) × IsEarliest test lines line
