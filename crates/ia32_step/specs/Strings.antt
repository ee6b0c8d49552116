-- The string instructions, alone and repeated: Intel SDM volume 2, MOVS, STOS, LODS, SCAS, CMPS and REP. One step is one iteration.
use Rattle.std.specs.Prelude.{ℕ, ◌+◌, ◌-◌, ◌%◌, ◌^◌, Bool, true, not, ◌&&◌, ◌==◌, Result, Ok, if◌then◌else◌}
use Rattle.ia32_arithmetic.specs.declared.widths.Width.{Width}
use Rattle.ia32_arithmetic.specs.declared.flags.Flags.{Flags}
use Rattle.ia32_arithmetic.specs.declared.sums.BinaryOp.TheVariants.{Sub}
use Rattle.ia32_arithmetic.specs.Widths.{bytes}
use Rattle.ia32_arithmetic.specs.Sums.{binary}
use Rattle.ia32_decode.specs.declared.instruction.Instr.{Instr}
use Rattle.ia32_decode.specs.declared.instruction.Repeat.{Repeat}
use Rattle.ia32_decode.specs.declared.instruction.Repeat.TheVariants.{Absent, F2, F3}
use Rattle.ia32_step.specs.declared.effects.Stop.{Stop}
use Rattle.ia32_step.specs.declared.effects.Write.TheVariants as write
use Rattle.ia32_step.specs.declared.strings.StringOp.{StringOp}
use Rattle.ia32_step.specs.declared.strings.StringOp.TheVariants.{Cmps, Lods, Movs, Scas, Stos}
use Rattle.ia32_step.specs.Registers.{Registers, ECX, ESI, EDI, general_of, with_general, part, with_part}
use Rattle.ia32_step.specs.State.{Machine, Effect}
use Rattle.ia32_step.specs.Operands.{and_then, read, settled, unwritten}

-- DF: downwards
unfoldable pub next_of : Width → ℕ → Flags → ℕ
next_of w at f = if f.direction then ((at + 2 ^ 32 - bytes w) % 2 ^ 32) else ((at + bytes w) % 2 ^ 32)

abbrev pub source_moved : Width → Registers → Registers
source_moved w r = with_general ESI (next_of w (general_of r ESI) r.flags) r

abbrev pub destination_moved : Width → Registers → Registers
destination_moved w r = with_general EDI (next_of w (general_of r EDI) r.flags) r

-- MOVS
unfoldable pub copied : Width → Machine → Result Effect Stop
copied w m =
    let r = m.registers in
    and_then (read w (general_of r ESI) m.memory) (λ v.
    Ok (record { registers = destination_moved w (source_moved w r); write = write.Number w (general_of r EDI) v }))

-- STOS
unfoldable pub filled : Width → Registers → Result Effect Stop
filled w r = Ok (record { registers = destination_moved w r; write = write.Number w (general_of r EDI) (part w 0 r) })

-- LODS
unfoldable pub taken : Width → Machine → Result Effect Stop
taken w m =
    let r = m.registers in
    and_then (read w (general_of r ESI) m.memory) (λ v. Ok (unwritten (with_part w 0 v (source_moved w r))))

-- SCAS: the accumulator with what is at EDI
unfoldable pub scanned : Width → Machine → Result Effect Stop
scanned w m =
    let r = m.registers in
    and_then (read w (general_of r EDI) m.memory) (λ b. Ok (settled (destination_moved w r) (binary Sub w (part w 0 r) b r.flags).flags))

-- CMPS: what is at ESI, which is read first, with what is at EDI
unfoldable pub compared_strings : Width → Machine → Result Effect Stop
compared_strings w m =
    let r = m.registers in
    and_then (read w (general_of r ESI) m.memory) (λ a. and_then (read w (general_of r EDI) m.memory) (λ b.
    Ok (settled (destination_moved w (source_moved w r)) (binary Sub w a b r.flags).flags)))

-- one iteration
unfoldable pub once : StringOp → Width → Machine → Result Effect Stop
once Cmps w m = compared_strings w m
once Lods w m = taken w m
once Movs w m = copied w m
once Scas w m = scanned w m
once Stos w m = filled w m.registers

abbrev pub while_equal : Repeat → Bool → Bool
while_equal F2 zero = not zero
while_equal F3 zero = zero
while_equal Absent zero = zero

-- F3 repeats CMPS and SCAS while equal, F2 while not equal; the others go on
unfoldable pub goes_on : StringOp → Repeat → Bool → Bool
goes_on Cmps repeat zero = while_equal repeat zero
goes_on Scas repeat zero = while_equal repeat zero
goes_on Lods repeat zero = true
goes_on Movs repeat zero = true
goes_on Stos repeat zero = true

-- ECX goes down by one; but at the last iteration EIP goes back to the instruction
unfoldable pub counted_down : ℕ → Bool → Registers → Registers
counted_down start more r =
    let left = (general_of r ECX + 2 ^ 32 - 1) % 2 ^ 32 in
    let next = with_general ECX left r in
    if not (left == 0) && more then (record next { eip = start }) else next

-- with ECX 0 nothing is done
abbrev pub repeated : StringOp → Repeat → ℕ → Width → Machine → Result Effect Stop
repeated op repeat start w m =
    if general_of m.registers ECX == 0 then Ok (settled m.registers m.registers.flags)
    else and_then (once op w m) (λ e. Ok (record e { registers = counted_down start (goes_on op repeat e.registers.flags.zero) e.registers }))

abbrev pub by_repeat : Repeat → StringOp → ℕ → Width → Machine → Result Effect Stop
by_repeat Absent op start w m = once op w m
by_repeat F2 op start w m = repeated op F2 start w m
by_repeat F3 op start w m = repeated op F3 start w m

-- a string instruction that begins at start
unfoldable pub string_done : StringOp → Instr → Width → ℕ → Machine → Result Effect Stop
string_done op i w start m = by_repeat i.repeat op start w m
