-- What it is that an instruction was put, by what it is wherever labels stand. (The project's own.)
use Rattle.std.specs.Prelude.{ℕ, ◌≡◌, ◌≢◌, ◌+◌, ◌*◌, ◌≤◌, ◌<◌, ◌^◌, ◌⊎◌, true, List, [], ◌∷◌, ◌++◌, Option, Some, None}
use Rattle.asm_encode.specs.Jumps.{jump_length, displacement, fits_in, jump_bytes}
use Rattle.asm_encode.specs.Templates.{filled}
use Rattle.asm_encode.specs.declared.jumps.Jump.{Jump}
use Rattle.ia32_fields.specs.Fields.{IsWide}
use Rattle.line_bytes.specs.Tables.{Rows, row_of}
use Rattle.line_bytes.specs.Reasons.{refused_of}
use Rattle.line_bytes.specs.Refusals.{Why, IsBadJump, IsBadNumbered, IsRefusal}
use Rattle.asm_lines.specs.Statements.{Statement}
use Rattle.ia32_fields.specs.Jumps.{JumpsAreSpelled}
use Rattle.line_bytes.specs.Numbers.{Numbered, numbered, number_or_0}
use Rattle.line_bytes.specs.declared.piece.Tables.{Tables}
use Rattle.line_bytes.specs.declared.piece.Met.{Met}
use Rattle.line_bytes.specs.declared.made.Made.{Made}
use Rattle.line_bytes.specs.declared.made.Made.TheVariants as made
use Rattle.line_bytes.specs.declared.refused.Refused.{Refused}
use Rattle.line_bytes.specs.declared.refused.Refused.TheVariants as refused

-- each label's address needs four bytes
unfoldable pub AreWide : Rows → Type 0
AreWide [] = Unit {0}
AreWide (row ∷ rows) = IsWide row.1 × AreWide rows

-- the laws of jumps
unfoldable pub JumpLaws : Type 0
JumpLaws = JumpsAreSpelled

-- an instruction has these numbers
pub record AreNumbers (labels : Rows) (s : Statement) (value offset : ℕ) : Type 0 where
  pub numbers : Numbered
  pub is : numbered s ≡ Some numbers
  pub value_is : number_or_0 labels numbers.value ≡ Some value
  pub offset_is : number_or_0 labels numbers.offset ≡ Some offset

-- wherever it stands, an instruction is refused by its line
unfoldable pub IsUnnumbered : Rows → Statement → Type 0
IsUnnumbered labels s = (at : ℕ) → IsBadNumbered labels at (numbered s) refused.Line

-- a jump was put that leads to the target
pub record IsLed (old new : List ℕ) (jump : Jump) (target at : ℕ) : Type 0 where
  pub small : target < 2 ^ 32
  pub fits : fits_in jump (displacement target (at + jump_length jump)) ≡ true
  pub parts : new ≡ old ++ jump_bytes jump (displacement target (at + jump_length jump))

unfoldable pub IsPutMade : List ℕ → List ℕ → Made → ℕ → ℕ → ℕ → Type 0
IsPutMade old new (made.Faulty fault) value offset at = ⊥
IsPutMade old new (made.Jump jump) value offset at = IsLed old new jump value at
IsPutMade old new (made.Plain t) value offset at = new ≡ old ++ filled t value offset

unfoldable pub IsBadMade : Made → ℕ → ℕ → ℕ → Refused → Type 0
IsBadMade (made.Faulty fault) value offset at why = why ≡ refused_of fault
IsBadMade (made.Jump jump) value offset at why = IsBadJump (Some jump) value at why
IsBadMade (made.Plain t) value offset at refused.OutOfMemory = Unit {0}
IsBadMade (made.Plain t) value offset at refused.Line = (2 ^ 32 ≤ value) ⊎ (2 ^ 32 ≤ offset)
IsBadMade (made.Plain t) value offset at refused.Range = (2 ^ 32 ≤ value) ⊎ (2 ^ 32 ≤ offset)

-- ---- why a line is not put

-- a label: it is not the next one of the table, or does not stand where the table says
abbrev pub IsBadLabel : Tables → Met → ℕ → Why
IsBadLabel t met at name refused.OutOfMemory = Unit {0}
IsBadLabel t met at name refused.Line = row_of t.labels name ≢ Some (met.labels, at)
IsBadLabel t met at name refused.Range = ⊥

-- an import: it is not among those that were met nor the next one, or its word is behind all addresses
abbrev pub IsBadRow : Tables → ℕ → Option (ℕ × ℕ) → Refused → Type 0
IsBadRow t met row refused.OutOfMemory = Unit {0}
IsBadRow t met None refused.Line = Unit {0}
IsBadRow t met None refused.Range = ⊥
IsBadRow t met (Some row) refused.Line = met < row.0
IsBadRow t met (Some row) refused.Range = (row.0 ≤ met) × (2 ^ 32 ≤ t.words + 4 * row.0)

abbrev pub IsBadImport : Tables → ℕ → Why
IsBadImport t met name why = IsBadRow t met (row_of t.imports name) why

-- why a line behind so many bytes is not put
abbrev pub IsNotPut : Tables → Met → ℕ → List ℕ → Refused → Type 0
IsNotPut t met done line why = IsRefusal (IsBadLabel t met (0x80101000 + done)) (IsBadImport t met.imports) t met done line why
