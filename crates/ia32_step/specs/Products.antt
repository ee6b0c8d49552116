-- Products and quotients in registers: Intel SDM volume 2, MUL, IMUL, DIV and IDIV. What the numbers come to is ia32_arithmetic's.
use Rattle.std.specs.Prelude.{ℕ, ◌%◌, Option, None, Some, Result, Ok, Err}
use Rattle.ia32_arithmetic.specs.declared.widths.Width.{Width}
use Rattle.ia32_arithmetic.specs.declared.widths.Width.TheVariants.{Byte, Word, Doubleword}
use Rattle.ia32_arithmetic.specs.declared.products.Product.{Product}
use Rattle.ia32_arithmetic.specs.declared.products.Quotient.{Quotient}
use Rattle.ia32_arithmetic.specs.Widths.{size}
use Rattle.ia32_arithmetic.specs.Products as numbers
use Rattle.ia32_decode.specs.declared.instruction.Instr.{Instr}
use Rattle.ia32_step.specs.declared.effects.Stop.{Stop}
use Rattle.ia32_step.specs.declared.effects.Stop.TheVariants.{DivideError}
use Rattle.ia32_step.specs.Registers.{Registers, part, with_part}
use Rattle.ia32_step.specs.State.{Machine, Effect}
use Rattle.ia32_step.specs.Operands.{with_first, with_second, with_both, stored, settled, unwritten}

-- AH, DX, EDX
abbrev pub upper : Width → ℕ
upper Byte = 4
upper Word = 2
upper Doubleword = 2

-- AX, DX:AX, EDX:EAX
unfoldable pub with_pair : Width → ℕ → ℕ → Registers → Registers
with_pair w high low r = with_part w (upper w) high (with_part w 0 low r)

abbrev pub into_pair : Width → Product → Registers → Effect
into_pair w p r = settled (with_pair w p.high p.low r) p.flags

-- MUL
unfoldable pub multiplied : Instr → Width → Machine → Result Effect Stop
multiplied i w m = with_first i w m (λ b. Ok (into_pair w (numbers.multiplied w (part w 0 m.registers) b m.registers.flags) m.registers))

-- IMUL of one operand
unfoldable pub multiplied_signed : Instr → Width → Machine → Result Effect Stop
multiplied_signed i w m = with_first i w m (λ b. Ok (into_pair w (numbers.multiplied_signed w (part w 0 m.registers) b m.registers.flags) m.registers))

-- the lower half into the first operand
abbrev pub into_first : Instr → Width → Product → Registers → Effect
into_first i w p r = stored w i.first p.low r (settled r p.flags)

-- IMUL of two operands
unfoldable pub multiplied_two : Instr → Width → Machine → Result Effect Stop
multiplied_two i w m = with_both i w m (λ a b. Ok (into_first i w (numbers.multiplied_signed w a b m.registers.flags) m.registers))

-- IMUL of the second operand and the immediate
unfoldable pub multiplied_three : Instr → Width → Machine → Result Effect Stop
multiplied_three i w m = with_second i w m (λ a. Ok (into_first i w (numbers.multiplied_signed w a (i.imm % size w) m.registers.flags) m.registers))

-- the quotient below and the remainder above; the flags are undefined
abbrev pub quotient_in : Width → Option Quotient → Registers → Result Effect Stop
quotient_in w None r = Err DivideError
quotient_in w (Some q) r = Ok (unwritten (with_pair w q.remainder q.quotient r))

abbrev pub pair_of : Width → Registers → ℕ
pair_of w r = numbers.pair w (part w (upper w) r) (part w 0 r)

-- DIV
unfoldable pub divided : Instr → Width → Machine → Result Effect Stop
divided i w m = with_first i w m (λ b. quotient_in w (numbers.divided w (pair_of w m.registers) b) m.registers)

-- IDIV
unfoldable pub divided_signed : Instr → Width → Machine → Result Effect Stop
divided_signed i w m = with_first i w m (λ b. quotient_in w (numbers.divided_signed w (pair_of w m.registers) b) m.registers)
