-- What instructions are as bytes, wherever labels stand, and how many bytes lines have.
use Rattle.std.specs.Prelude.{ℕ, ◌≡◌, Bool, true, false, ◌||◌, length, Option, Some, None, MatchBool, if◌then◌else◌}
use Rattle.asm_lines.specs.Lines.{Content, Nothing, Label, Octets, Word, Import, Instruction}
use Rattle.asm_lines.specs.declared.statement.Prefix.{Prefix}
use Rattle.ia32_decode.specs.declared.instruction.Op.{Op}
use Rattle.ia32_decode.specs.declared.instruction.Repeat.{Repeat}
use Rattle.ia32_decode.specs.declared.instruction.Repeat.TheVariants as repeats
use Rattle.asm_encode.specs.Operations.{form_of}
use Rattle.asm_encode.specs.Jumps.{jump_of, jump_length}
use Rattle.asm_encode.specs.Templates.{bytes_in, IsTemplate, IsChosenTemplate, IsFault}
use Rattle.asm_encode.specs.declared.forms.Form.{Form}
use Rattle.asm_encode.specs.declared.jumps.Jump.{Jump}
use Rattle.asm_encode.specs.declared.templates.Fault.TheVariants.{NoForm}
use Rattle.line_bytes.specs.Numbers.{Numbered, numbered, term_of}
use Rattle.line_bytes.specs.declared.made.Made.{Made}
use Rattle.line_bytes.specs.declared.made.Made.TheVariants as made

abbrev pub is_repeated : Repeat → Bool
is_repeated repeats.Absent = false
is_repeated repeats.F2 = true
is_repeated repeats.F3 = true

abbrev pub has_prefix : Prefix → Bool
has_prefix prefix = prefix.lock || is_repeated prefix.repeat

abbrev pub jump_in : Option Jump → Made
jump_in None = made.Faulty NoForm
jump_in (Some jump) = made.Jump jump

-- a jump stands behind no prefix
abbrev pub jump_made : Prefix → Op → Made
jump_made prefix op = if has_prefix prefix then made.Faulty NoForm else jump_in (jump_of op)

abbrev pub IsPlain : Numbered → Form → Made → Type 0
IsPlain n form (made.Faulty fault) = IsFault n.operation form (term_of n.value) (term_of n.offset) fault
IsPlain n form (made.Jump jump) = ⊥
IsPlain n form (made.Plain t) = IsTemplate n.operation form (term_of n.value) (term_of n.offset) t × IsChosenTemplate n.operation form (term_of n.value) (term_of n.offset) t

abbrev pub IsMadeAs : Numbered → Option Form → Made → Type 0
IsMadeAs n None m = m ≡ made.Faulty NoForm
IsMadeAs n (Some form) m = MatchBool form.is_jump (m ≡ jump_made n.operation.prefix form.op) (IsPlain n form m)

-- what an instruction is
unfoldable pub IsMade : Option Numbered → Made → Type 0
IsMade None m = m ≡ made.Faulty NoForm
IsMade (Some n) m = IsMadeAs n (form_of n.operation) m

abbrev pub made_size : Made → ℕ
made_size (made.Faulty fault) = 0
made_size (made.Jump jump) = jump_length jump
made_size (made.Plain t) = length (bytes_in t)

-- what a line's instruction is, if it is one
unfoldable pub IsMadeIn : Option Content → Option Made → Type 0
IsMadeIn None m = m ≡ None
IsMadeIn (Some Nothing) m = m ≡ None
IsMadeIn (Some (Label name)) m = m ≡ None
IsMadeIn (Some (Octets bytes)) m = m ≡ None
IsMadeIn (Some (Word value)) m = m ≡ None
IsMadeIn (Some (Import name)) m = m ≡ None
IsMadeIn (Some (Instruction s)) None = ⊥
IsMadeIn (Some (Instruction s)) (Some m) = IsMade (numbered s) m

abbrev pub made_size_in : Option Made → ℕ
made_size_in None = 0
made_size_in (Some m) = made_size m

-- how many bytes a line has; none where it is refused wherever labels stand
abbrev pub size_in : Option Content → Option Made → ℕ
size_in None m = 0
size_in (Some Nothing) m = 0
size_in (Some (Label name)) m = 0
size_in (Some (Octets bytes)) m = length bytes
size_in (Some (Word value)) m = 4
size_in (Some (Import name)) m = 6
size_in (Some (Instruction s)) m = made_size_in m
