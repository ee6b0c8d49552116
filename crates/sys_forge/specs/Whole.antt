-- A source with its bytes, where labels and words stand, and which words hold addresses; and why there is no such.
use Rattle.std.specs.Prelude.{ℕ, ◌≡◌, ◌+◌, ◌*◌, ◌⊎◌, List, ◌++◌, length, replicate}
use Rattle.std.specs.Str.Lines.{lines}
use Rattle.sys_forge.specs.Assembly.{IsEmitted, IsRefusedText}
use Rattle.sys_forge.specs.Standing.{IsSettled}
use Rattle.sys_forge.specs.Moved.{AreAddresses}
use Rattle.line_bytes.specs.declared.piece.Tables.{Tables}
use Rattle.sys_forge.specs.declared.refusal.ForgeRefusal.{ForgeRefusal}
use Rattle.sys_forge.specs.declared.refusal.ForgeRefusal.TheVariants as refusals

-- the bytes of the lines, behind them a zero word for each import, and the places of the words among the lines' bytes that hold addresses
pub record IsAssembled (text : List ℕ) (t : Tables) (out places : List ℕ) : Type 0 where
  pub settled : IsSettled text t
  pub bytes : List ℕ
  pub emitted : IsEmitted t (lines text) bytes
  pub words : out ≡ bytes ++ replicate (4 * length t.imports) 0
  pub addresses : AreAddresses t (lines text) bytes places

-- want of memory, or the line behind the last is named
abbrev pub IsUnplaced : List ℕ → ForgeRefusal → Type 0
IsUnplaced text refusals.OutOfMemory = Unit {0}
IsUnplaced text (refusals.Line n) = ⊥
IsUnplaced text (refusals.Range n) = n ≡ length (lines text) + 1

-- a line is refused; or all lines have bytes, but it is not seen which of their words hold addresses
abbrev pub IsUnassembled : List ℕ → ForgeRefusal → Type 0
IsUnassembled text why = IsRefusedText text why ⊎ IsUnplaced text why
