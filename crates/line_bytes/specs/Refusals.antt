-- Why a line has no bytes, where labels and imports are those of tables. (The project's own: docs/ASSEMBLER.md.)
use Rattle.std.specs.Prelude.{◌≡◌, ℕ, ◌+◌, ◌*◌, ◌≤◌, ◌<◌, ◌^◌, ◌⊎◌, false, List, length, Option, Some, None, MatchBool, if◌then◌else◌}
use Rattle.asm_lines.specs.Lines.{Content, Nothing, Octets, Word, Instruction, line_content}
use Rattle.asm_lines.specs.Lines as source
use Rattle.asm_encode.specs.Operations.{form_of}
use Rattle.asm_encode.specs.Jumps.{jump_of, jump_length, displacement, fits_in}
use Rattle.asm_encode.specs.Templates.{IsFaultWith}
use Rattle.asm_encode.specs.declared.operation.Operation.{Operation}
use Rattle.asm_encode.specs.declared.forms.Form.{Form}
use Rattle.asm_encode.specs.declared.jumps.Jump.{Jump}
use Rattle.asm_encode.specs.declared.templates.Fault.TheVariants as faults
use Rattle.line_bytes.specs.Tables.{Rows}
use Rattle.line_bytes.specs.Numbers.{Numbered, numbered, number_of, number_or_0}
use Rattle.line_bytes.specs.Made.{has_prefix}
use Rattle.line_bytes.specs.Pieces.{IsLine}
use Rattle.line_bytes.specs.declared.piece.Tables.{Tables}
use Rattle.line_bytes.specs.declared.piece.Met.{Met}
use Rattle.line_bytes.specs.declared.refused.Refused.{Refused}
use Rattle.line_bytes.specs.declared.refused.Refused.TheVariants as refused

-- a value of four bytes: it names a label that there is not, or is 2^32 and more
abbrev pub IsBadNumber : Option ℕ → Refused → Type 0
IsBadNumber number refused.OutOfMemory = Unit {0}
IsBadNumber None refused.Line = Unit {0}
IsBadNumber None refused.Range = ⊥
IsBadNumber (Some n) refused.Line = ⊥
IsBadNumber (Some n) refused.Range = 2 ^ 32 ≤ n

-- a jump: it leads to 2^32 or behind, or too far for its field
abbrev pub IsTooFar : Jump → ℕ → ℕ → Type 0
IsTooFar jump target at = (2 ^ 32 ≤ target) ⊎ (fits_in jump (displacement target (at + jump_length jump)) ≡ false)

abbrev pub IsBadJump : Option Jump → ℕ → ℕ → Refused → Type 0
IsBadJump jump target at refused.OutOfMemory = Unit {0}
IsBadJump None target at refused.Line = Unit {0}
IsBadJump None target at refused.Range = ⊥
IsBadJump (Some jump) target at refused.Line = ⊥
IsBadJump (Some jump) target at refused.Range = IsTooFar jump target at

-- none behind a prefix
abbrev pub plain_jump : Operation → Form → Option Jump
plain_jump o form = if has_prefix o.prefix then None else jump_of form.op

abbrev pub IsBadPlain : Operation → Form → ℕ → ℕ → Refused → Type 0
IsBadPlain o form value offset refused.OutOfMemory = Unit {0}
IsBadPlain o form value offset refused.Line = IsFaultWith o form value offset faults.NoForm
IsBadPlain o form value offset refused.Range = IsFaultWith o form value offset faults.Range

-- an operation with numbers: its operands are of no form of its mnemonic, or a number does not fit
abbrev pub IsBadForm : Operation → Option Form → ℕ → ℕ → ℕ → Refused → Type 0
IsBadForm o form value offset at refused.OutOfMemory = Unit {0}
IsBadForm o None value offset at refused.Line = Unit {0}
IsBadForm o None value offset at refused.Range = ⊥
IsBadForm o (Some form) value offset at refused.Line = MatchBool form.is_jump (IsBadJump (plain_jump o form) value at refused.Line) (IsBadPlain o form value offset refused.Line)
IsBadForm o (Some form) value offset at refused.Range = MatchBool form.is_jump (IsBadJump (plain_jump o form) value at refused.Range) (IsBadPlain o form value offset refused.Range)

abbrev pub IsBadNumbers : Operation → Option ℕ → Option ℕ → ℕ → Refused → Type 0
IsBadNumbers o value offset at refused.OutOfMemory = Unit {0}
IsBadNumbers o None offset at refused.Line = Unit {0}
IsBadNumbers o None offset at refused.Range = ⊥
IsBadNumbers o (Some value) None at refused.Line = Unit {0}
IsBadNumbers o (Some value) None at refused.Range = ⊥
IsBadNumbers o (Some value) (Some offset) at refused.Line = IsBadForm o (form_of o) value offset at refused.Line
IsBadNumbers o (Some value) (Some offset) at refused.Range = IsBadForm o (form_of o) value offset at refused.Range

-- an instruction: it has two values or two operands in memory, names a label that there is not, or is a bad operation
unfoldable pub IsBadNumbered : Rows → ℕ → Option Numbered → Refused → Type 0
IsBadNumbered labels at n refused.OutOfMemory = Unit {0}
IsBadNumbered labels at None refused.Line = Unit {0}
IsBadNumbered labels at None refused.Range = ⊥
IsBadNumbered labels at (Some n) refused.Line = IsBadNumbers n.operation (number_or_0 labels n.value) (number_or_0 labels n.offset) at refused.Line
IsBadNumbered labels at (Some n) refused.Range = IsBadNumbers n.operation (number_or_0 labels n.value) (number_or_0 labels n.offset) at refused.Range

-- what a line says: of a label and of the call of an import it is said apart, why it is refused
abbrev pub Why : Type 1
Why = List ℕ → Refused → Type 0

abbrev pub IsBadContent : (Label Import : Why) → Tables → ℕ → Content → Refused → Type 0
IsBadContent Label Import t at Nothing refused.OutOfMemory = Unit {0}
IsBadContent Label Import t at Nothing refused.Line = ⊥
IsBadContent Label Import t at Nothing refused.Range = ⊥
IsBadContent Label Import t at (Octets bytes) refused.OutOfMemory = Unit {0}
IsBadContent Label Import t at (Octets bytes) refused.Line = ⊥
IsBadContent Label Import t at (Octets bytes) refused.Range = ⊥
IsBadContent Label Import t at (source.Label name) why = Label name why
IsBadContent Label Import t at (Word value) why = IsBadNumber (number_of t.labels value) why
IsBadContent Label Import t at (source.Import name) why = Import name why
IsBadContent Label Import t at (Instruction statement) why = IsBadNumbered t.labels at (numbered statement) why

abbrev pub IsBadIn : (Label Import : Why) → Tables → ℕ → Option Content → Refused → Type 0
IsBadIn Label Import t at None refused.OutOfMemory = Unit {0}
IsBadIn Label Import t at None refused.Line = Unit {0}
IsBadIn Label Import t at None refused.Range = ⊥
IsBadIn Label Import t at (Some content) why = IsBadContent Label Import t at content why

-- a line has its bytes, and with them and the words of the imports that were met the text has more than 0x3FF000
pub record IsTooLong (t : Tables) (met : Met) (done : ℕ) (line : List ℕ) : Type 0 where
  pub piece : List ℕ
  pub next : Met
  pub is : IsLine t met (0x80101000 + done) line piece next
  pub long : 0x3FF000 < done + length piece + 4 * next.imports

-- why a line behind so many bytes is refused
abbrev pub IsRefusal : (Label Import : Why) → Tables → Met → ℕ → List ℕ → Refused → Type 0
IsRefusal Label Import t met done line refused.OutOfMemory = Unit {0}
IsRefusal Label Import t met done line refused.Line = IsBadIn Label Import t (0x80101000 + done) (line_content line) refused.Line
IsRefusal Label Import t met done line refused.Range = IsBadIn Label Import t (0x80101000 + done) (line_content line) refused.Range ⊎ IsTooLong t met done line
