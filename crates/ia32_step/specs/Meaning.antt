-- What an instruction does: Intel SDM volume 2. A row for each operation names the family's equations.
use Rattle.std.specs.Prelude.{ℕ, true, false, not, ◌==◌, None, Some, Result, Ok, if◌then◌else◌}
use Rattle.ia32_arithmetic.specs.declared.widths.Width.{Width}
use Rattle.ia32_arithmetic.specs.declared.widths.Width.TheVariants.{Byte, Word, Doubleword}
use Rattle.ia32_arithmetic.specs.declared.bits.BitOp.TheVariants.{Set, Reset, Complement}
use Rattle.ia32_arithmetic.specs.declared.sums.BinaryOp.TheVariants as binary
use Rattle.ia32_arithmetic.specs.declared.sums.UnaryOp.TheVariants as unary
use Rattle.ia32_arithmetic.specs.declared.shifts.ShiftOp.TheVariants as shift
use Rattle.ia32_arithmetic.specs.declared.shifts.DoubleShiftOp.TheVariants as double
use Rattle.ia32_decode.specs.declared.instruction.Instr.{Instr}
use Rattle.ia32_decode.specs.declared.instruction.Op.{Op}
use Rattle.ia32_decode.specs.declared.instruction.Op.TheVariants as op
use Rattle.ia32_step.specs.declared.effects.Stop.{Stop}
use Rattle.ia32_step.specs.declared.strings.StringOp.TheVariants as string
pub use Rattle.ia32_step.specs.Registers.{ESP, general_of, with_general}
use Rattle.ia32_step.specs.Registers.{ECX}
use Rattle.ia32_step.specs.State.{Machine, machine, Effect}
use Rattle.ia32_step.specs.Operands.{and_then, settled, committed}
use Rattle.ia32_step.specs.Conditions.{holds}
use Rattle.ia32_step.specs.Arithmetic.{changed, compared, altered, shifted, double_shifted}
use Rattle.ia32_step.specs.Products.{multiplied, multiplied_signed, multiplied_two, multiplied_three, divided, divided_signed}
use Rattle.ia32_step.specs.Moves.{moved, exchanged, exchanged_added, compared_exchanged, loaded_address, moved_zero, moved_sign, converted, converted_double, moved_if, set_if, swapped_bytes}
use Rattle.ia32_step.specs.Stack.{pushed, popped, all_pushed, all_popped, flags_pushed, flags_popped, flags_loaded, flags_stored}
use Rattle.ia32_step.specs.Control.{advanced, gone, gone_if, called, returned, left, looped}
use Rattle.ia32_step.specs.Strings.{string_done}
use Rattle.ia32_step.specs.BitStrings.{bit_done, scanned_forward, scanned_back}

-- of so many bytes
abbrev pub width_of : ℕ → Width
width_of n = if n == 1 then Byte else (if n == 2 then Word else Doubleword)

abbrev pub by_op : Op → Instr → Width → ℕ → Machine → Result Effect Stop
by_op op.Adc i w start m = changed binary.Adc i w m
by_op op.Add i w start m = changed binary.Add i w m
by_op op.And i w start m = changed binary.And i w m
by_op op.Bsf i w start m = scanned_forward i w m
by_op op.Bsr i w start m = scanned_back i w m
by_op op.Bswap i w start m = swapped_bytes i m
by_op op.Bt i w start m = bit_done None i w m
by_op op.Btc i w start m = bit_done (Some Complement) i w m
by_op op.Btr i w start m = bit_done (Some Reset) i w m
by_op op.Bts i w start m = bit_done (Some Set) i w m
by_op op.Call i w start m = called i m
by_op op.Clc i w start m = Ok (settled m.registers (record m.registers.flags { carry = false }))
by_op op.Cld i w start m = Ok (settled m.registers (record m.registers.flags { direction = false }))
by_op op.Cmc i w start m = Ok (settled m.registers (record m.registers.flags { carry = not m.registers.flags.carry }))
by_op (op.Cmovcc c) i w start m = moved_if (holds c m.registers.flags) i w m
by_op op.Cmp i w start m = compared binary.Sub i w m
by_op op.Cmps i w start m = string_done string.Cmps i w start m
by_op op.Cmpxchg i w start m = compared_exchanged i w m
by_op op.Cdq i w start m = converted_double w m.registers
by_op op.Cwde i w start m = converted w m.registers
by_op op.Dec i w start m = altered unary.Dec i w m
by_op op.Div i w start m = divided i w m
by_op op.Idiv i w start m = divided_signed i w m
by_op op.Imul i w start m = multiplied_signed i w m
by_op op.ImulRegister i w start m = multiplied_two i w m
by_op op.ImulImmediate i w start m = multiplied_three i w m
by_op op.Inc i w start m = altered unary.Inc i w m
by_op (op.Jcc c) i w start m = gone_if (holds c m.registers.flags) i m.registers
by_op op.Jecxz i w start m = gone_if (general_of m.registers ECX == 0) i m.registers
by_op op.Jmp i w start m = gone i m
by_op op.Lahf i w start m = flags_loaded m.registers
by_op op.Lea i w start m = loaded_address i w m.registers
by_op op.Leave i w start m = left m
by_op op.Lods i w start m = string_done string.Lods i w start m
by_op op.Loop i w start m = looped true i m.registers
by_op op.Loope i w start m = looped m.registers.flags.zero i m.registers
by_op op.Loopne i w start m = looped (not m.registers.flags.zero) i m.registers
by_op op.Mov i w start m = moved i w m
by_op op.Movs i w start m = string_done string.Movs i w start m
by_op op.MovsxByte i w start m = moved_sign Byte i w m
by_op op.MovsxWord i w start m = moved_sign Word i w m
by_op op.MovzxByte i w start m = moved_zero Byte i w m
by_op op.MovzxWord i w start m = moved_zero Word i w m
by_op op.Mul i w start m = multiplied i w m
by_op op.Neg i w start m = altered unary.Neg i w m
by_op op.Nop i w start m = Ok (settled m.registers m.registers.flags)
by_op op.Not i w start m = altered unary.Not i w m
by_op op.Or i w start m = changed binary.Or i w m
by_op op.Pop i w start m = popped i w m
by_op op.Popad i w start m = all_popped m
by_op op.Popfd i w start m = flags_popped m
by_op op.Push i w start m = pushed i w m
by_op op.Pushad i w start m = all_pushed m.registers
by_op op.Pushfd i w start m = flags_pushed m.registers
by_op op.Rcl i w start m = shifted shift.Rcl i w m
by_op op.Rcr i w start m = shifted shift.Rcr i w m
by_op op.Ret i w start m = returned i m
by_op op.Rol i w start m = shifted shift.Rol i w m
by_op op.Ror i w start m = shifted shift.Ror i w m
by_op op.Sahf i w start m = flags_stored m.registers
by_op op.Sar i w start m = shifted shift.Sar i w m
by_op op.Sbb i w start m = changed binary.Sbb i w m
by_op op.Scas i w start m = string_done string.Scas i w start m
by_op (op.Setcc c) i w start m = set_if (holds c m.registers.flags) i m.registers
by_op op.Shl i w start m = shifted shift.Shl i w m
by_op op.ShldCl i w start m = double_shifted double.Shld (general_of m.registers ECX) i w m
by_op op.ShldImmediate i w start m = double_shifted double.Shld i.imm i w m
by_op op.Shr i w start m = shifted shift.Shr i w m
by_op op.ShrdCl i w start m = double_shifted double.Shrd (general_of m.registers ECX) i w m
by_op op.ShrdImmediate i w start m = double_shifted double.Shrd i.imm i w m
by_op op.Stc i w start m = Ok (settled m.registers (record m.registers.flags { carry = true }))
by_op op.Std i w start m = Ok (settled m.registers (record m.registers.flags { direction = true }))
by_op op.Stos i w start m = string_done string.Stos i w start m
by_op op.Sub i w start m = changed binary.Sub i w m
by_op op.Test i w start m = compared binary.And i w m
by_op op.Xadd i w start m = exchanged_added i w m
by_op op.Xchg i w start m = exchanged i w m
by_op op.Xor i w start m = changed binary.Xor i w m

unfoldable pub effect_of : Instr → ℕ → Machine → Result Effect Stop
effect_of i start m = by_op i.op i (width_of i.width) start m

-- The instruction, which so many bytes spell, is done with EIP at the next one; its write comes last.
unfoldable pub meaning : Instr → ℕ → Machine → Result Machine Stop
meaning i n m = and_then (effect_of i m.registers.eip (machine (advanced n m.registers) m.memory)) (λ e. committed e m)
