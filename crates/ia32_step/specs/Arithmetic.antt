-- Arithmetic, logic and shifts of operands: Intel SDM volume 2, the page of each instruction. What the numbers come to is ia32_arithmetic's.
use Rattle.std.specs.Prelude.{ℕ, Result, Ok}
use Rattle.ia32_arithmetic.specs.declared.widths.Width.{Width}
use Rattle.ia32_arithmetic.specs.declared.flags.Computed.{Computed}
use Rattle.ia32_arithmetic.specs.declared.sums.BinaryOp.{BinaryOp}
use Rattle.ia32_arithmetic.specs.declared.sums.UnaryOp.{UnaryOp}
use Rattle.ia32_arithmetic.specs.declared.shifts.ShiftOp.{ShiftOp}
use Rattle.ia32_arithmetic.specs.declared.shifts.DoubleShiftOp.{DoubleShiftOp}
use Rattle.ia32_arithmetic.specs.Sums.{binary, unary}
use Rattle.ia32_arithmetic.specs.Shifts.{shift, double_shift}
use Rattle.ia32_decode.specs.declared.instruction.Instr.{Instr}
use Rattle.ia32_step.specs.declared.effects.Stop.{Stop}
use Rattle.ia32_step.specs.Registers.{Registers}
use Rattle.ia32_step.specs.State.{Machine, Effect}
use Rattle.ia32_step.specs.Operands.{with_first, with_both, stored, settled}

-- the first operand becomes the value
abbrev pub computed : Instr → Width → Registers → Computed → Effect
computed i w r c = stored w i.first c.value r (settled r c.flags)

-- ADD, ADC, AND, OR, SBB, SUB, XOR
unfoldable pub changed : BinaryOp → Instr → Width → Machine → Result Effect Stop
changed op i w m = with_both i w m (λ a b. Ok (computed i w m.registers (binary op w a b m.registers.flags)))

-- CMP, TEST: the flags of SUB and AND alone
unfoldable pub compared : BinaryOp → Instr → Width → Machine → Result Effect Stop
compared op i w m = with_both i w m (λ a b. Ok (settled m.registers (binary op w a b m.registers.flags).flags))

-- INC, DEC, NEG, NOT
unfoldable pub altered : UnaryOp → Instr → Width → Machine → Result Effect Stop
altered op i w m = with_first i w m (λ a. Ok (computed i w m.registers (unary op w a m.registers.flags)))

-- SHL, SHR, SAR, ROL, ROR, RCL, RCR by the second operand
unfoldable pub shifted : ShiftOp → Instr → Width → Machine → Result Effect Stop
shifted op i w m = with_both i w m (λ a n. Ok (computed i w m.registers (shift op w a n m.registers.flags)))

-- SHLD, SHRD by a count
unfoldable pub double_shifted : DoubleShiftOp → ℕ → Instr → Width → Machine → Result Effect Stop
double_shifted op n i w m = with_both i w m (λ a b. Ok (computed i w m.registers (double_shift op w a b n m.registers.flags)))
