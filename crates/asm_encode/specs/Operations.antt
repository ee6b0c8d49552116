-- What a mnemonic and its operands are as an instruction: Intel SDM volume 2, the pages of the instructions.
use Rattle.std.specs.Prelude.{ℕ, ◌%◌, ◌^◌, Bool, true, false, ◌&&◌, ◌||◌, ◌==◌, nat_lt, Option, Some, None, if◌then◌else◌}
use Rattle.asm_lines.specs.declared.argument.Index.{Index}
use Rattle.asm_lines.specs.declared.mnemonic.Mnemonic.{Mnemonic}
use Rattle.asm_lines.specs.declared.mnemonic.Mnemonic.TheVariants as mnemonics
use Rattle.ia32_decode.specs.declared.instruction.Op.{Op}
use Rattle.ia32_decode.specs.declared.instruction.Op.TheVariants as ops
use Rattle.ia32_decode.specs.declared.instruction.Instr.{Instr}
use Rattle.ia32_decode.specs.declared.instruction.Operand.{Operand}
use Rattle.ia32_decode.specs.declared.instruction.Operand.TheVariants as operands
use Rattle.asm_encode.specs.declared.operation.Given.{Given}
use Rattle.asm_encode.specs.declared.operation.Given.TheVariants as given
use Rattle.asm_encode.specs.declared.operation.Operation.{Operation}
use Rattle.asm_encode.specs.declared.forms.Form.{Form}

-- ---- operands

abbrev pub low : ℕ → ℕ
low n = n % 2 ^ 32

abbrev pub is_word : ℕ → Bool
is_word n = nat_lt n (2 ^ 32)

-- an operand, with this offset where it is in memory
abbrev pub operand_of : Given → ℕ → Operand
operand_of given.Absent offset = operands.Absent
operand_of (given.Register r) offset = operands.Reg r.number
operand_of given.Value offset = operands.Imm
operand_of (given.Memory width base None) offset = operands.Place base None 1 offset
operand_of (given.Memory width base (Some index)) offset = operands.Place base (Some index.register) index.scale offset

abbrev pub width_of : Given → Option ℕ
width_of given.Absent = None
width_of (given.Register r) = Some r.width
width_of given.Value = None
width_of (given.Memory width base index) = Some width

-- the width of an operation: that of its operands, or four bytes
abbrev pub agreed : Option ℕ → Option ℕ → Option ℕ
agreed None None = Some 4
agreed None (Some width) = Some width
agreed (Some width) None = Some width
agreed (Some width) (Some other) = if width == other then Some width else None

-- the width that both operands have
abbrev pub both : Option ℕ → Option ℕ → Option ℕ
both (Some width) (Some other) = if width == other then Some width else None
both first second = None

abbrev pub is_absent : Given → Bool
is_absent given.Absent = true
is_absent (given.Register r) = false
is_absent given.Value = false
is_absent (given.Memory width base index) = false

abbrev pub is_value : Given → Bool
is_value given.Absent = false
is_value (given.Register r) = false
is_value given.Value = true
is_value (given.Memory width base index) = false

-- CL
abbrev pub is_counter : Given → Bool
is_counter given.Absent = false
is_counter (given.Register r) = (r.width == 1) && (r.number == 1)
is_counter given.Value = false
is_counter (given.Memory width base index) = false

-- a shift's count: a value or CL
abbrev pub is_count : Given → Bool
is_count g = is_value g || is_counter g

abbrev pub is_in_memory : Given → Bool
is_in_memory given.Absent = false
is_in_memory (given.Register r) = false
is_in_memory given.Value = false
is_in_memory (given.Memory width base index) = true

-- the first or the second operand is in memory
abbrev pub has_memory : Operation → Bool
has_memory o = is_in_memory o.first || is_in_memory o.second

-- ---- forms

abbrev pub plain : Op → ℕ → Form
plain op width = record { op = op; width = width; is_jump = false }

abbrev pub at_width : Op → Option ℕ → Option Form
at_width op None = None
at_width op (Some width) = Some (plain op width)

unfoldable pub alone : Operation → Op → ℕ → Option Form
alone o op width = if is_absent o.first && (is_absent o.second && is_absent o.third) then Some (plain op width) else None

unfoldable pub on : Operation → Op → Option Form
on o op = if is_absent o.third then at_width op (agreed (width_of o.first) (width_of o.second)) else None

unfoldable pub shift : Operation → Op → Option Form
shift o op = if is_absent o.third && is_count o.second then at_width op (width_of o.first) else None

unfoldable pub double_shift : Operation → Op → Op → Option Form
double_shift o by_counter by_number = if is_count o.third then at_width (if is_counter o.third then by_counter else by_number) (both (width_of o.first) (width_of o.second)) else None

unfoldable pub multiply : Operation → Option Form
multiply o =
    if is_value o.third then at_width ops.ImulImmediate (both (width_of o.first) (width_of o.second))
    else (if is_absent o.second then on o ops.Imul else on o ops.ImulRegister)

abbrev pub from_width : Op → Op → Option ℕ → Option Op
from_width from_byte from_word None = None
from_width from_byte from_word (Some width) = if width == 1 then Some from_byte else (if width == 2 then Some from_word else None)

abbrev pub extended : Option Op → Option ℕ → Option Form
extended None width = None
extended (Some op) width = at_width op width

unfoldable pub extend : Operation → Op → Op → Option Form
extend o from_byte from_word = if is_absent o.third then extended (from_width from_byte from_word (width_of o.second)) (width_of o.first) else None

unfoldable pub to : Operation → Op → Option Form
to o op =
    if is_value o.first then (if is_absent o.second && is_absent o.third then Some (record { op = op; width = 4; is_jump = true }) else None)
    else on o op

abbrev pub by_mnemonic : Operation → Mnemonic → Option Form
by_mnemonic o (mnemonics.Alone op width) = alone o op width
by_mnemonic o (mnemonics.On op) = on o op
by_mnemonic o (mnemonics.Shift op) = shift o op
by_mnemonic o (mnemonics.DoubleShift by_counter by_number) = double_shift o by_counter by_number
by_mnemonic o mnemonics.Multiply = multiply o
by_mnemonic o (mnemonics.Extend from_byte from_word) = extend o from_byte from_word
by_mnemonic o (mnemonics.To op) = to o op

-- what an operation is: none where its operands are of no form of its mnemonic
unfoldable pub form_of : Operation → Option Form
form_of o = by_mnemonic o o.mnemonic

-- ---- instructions

-- the operation with numbers, as an instruction of a form
unfoldable pub instruction_of : Operation → Form → ℕ → ℕ → Instr
instruction_of o form value offset = record {
  op = form.op;
  width = form.width;
  first = operand_of o.first offset;
  second = operand_of o.second offset;
  imm = value;
  repeat = o.prefix.repeat;
  lock = o.prefix.lock;
}
