-- Laws of instructions one after the other: Intel SDM volume 2, PUSH and POP.
use Rattle.std.specs.Prelude.{ℕ, ◌≡◌, ◌+◌, ◌-◌, ◌%◌, ◌^◌, ◌<◌, length, None, Ok}
use Rattle.std.specs.FinMap as map
use Rattle.nd_mem.specs.Space.{Space, Reading, first_fault}
use Rattle.ia32_arithmetic.specs.declared.widths.Width.{Width}
use Rattle.ia32_arithmetic.specs.Widths.{size, bytes}
use Rattle.ia32_decode.specs.declared.instruction.Instr.{Instr}
use Rattle.ia32_step.specs.Registers.{Registers, ESP, general_of}
use Rattle.ia32_step.specs.State.{Machine, machine}
use Rattle.ia32_step.specs.Operands.{committed}
use Rattle.ia32_step.specs.Stack.{push, popped}
use Rattle.ia32_step.specs.Moves.{into_first}

-- what the registers of a program are
pub record AreRegisters (r : Registers) : Type 0 where
  pub count : length r.general ≡ 8
  pub stack : general_of r ESP < 2 ^ 32

-- where ESP goes when a number of the width is pushed
abbrev pub pushed_to : Width → Registers → ℕ
pushed_to w r = (general_of r ESP + 2 ^ 32 - bytes w) % 2 ^ 32

pub record StackLaws : Type 0 where
  -- A number that is pushed and then popped into an operand is as if it was moved there: ESP and all else is what it was before the push.
  pub popped : (w : Width) (v : ℕ) (i : Instr) (r : Registers) (s : Space) (m : Machine) → v < size w → AreRegisters r → first_fault Reading (map.get s) (pushed_to w r) (bytes w) ≡ None → committed (push w v r) (machine r s) ≡ Ok m → popped i w m ≡ Ok (into_first i w v r)
