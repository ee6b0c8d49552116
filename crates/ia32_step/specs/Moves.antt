-- Moves, exchanges and extensions: Intel SDM volume 2, the page of each instruction.
use Rattle.std.specs.Prelude.{ℕ, ◌-◌, ◌%◌, Bool, ◌==◌, Result, Ok, if◌then◌else◌}
use Rattle.ia32_arithmetic.specs.declared.widths.Width.{Width}
use Rattle.ia32_arithmetic.specs.declared.widths.Width.TheVariants.{Byte, Word, Doubleword}
use Rattle.ia32_arithmetic.specs.declared.sums.BinaryOp.TheVariants.{Add, Sub}
use Rattle.ia32_arithmetic.specs.Widths.{size, is_negative, sign_extended}
use Rattle.ia32_arithmetic.specs.Sums.{binary}
use Rattle.ia32_arithmetic.specs.Bits.{swapped}
use Rattle.ia32_decode.specs.declared.instruction.Instr.{Instr}
use Rattle.ia32_step.specs.declared.effects.Stop.{Stop}
use Rattle.ia32_step.specs.Registers.{Registers, part, with_part}
use Rattle.ia32_step.specs.State.{Machine, Effect}
use Rattle.ia32_step.specs.Operands.{address_in, with_first, with_second, with_both, stored, settled, unwritten}

-- the first operand becomes the number, and the flags stay
abbrev pub into_first : Instr → Width → ℕ → Registers → Effect
into_first i w v r = stored w i.first v r (settled r r.flags)

-- MOV
unfoldable pub moved : Instr → Width → Machine → Result Effect Stop
moved i w m = with_second i w m (λ v. Ok (into_first i w v m.registers))

-- XCHG
unfoldable pub exchanged : Instr → Width → Machine → Result Effect Stop
exchanged i w m =
    let r = m.registers in
    with_both i w m (λ a b. Ok (stored w i.first b r (stored w i.second a r (settled r r.flags))))

-- XADD: the second operand becomes the first, and that the sum
unfoldable pub exchanged_added : Instr → Width → Machine → Result Effect Stop
exchanged_added i w m =
    let r = m.registers in
    with_both i w m (λ a b. let s = binary Add w a b r.flags in Ok (stored w i.first s.value r (stored w i.second a r (settled r s.flags))))

-- where the accumulator is the first operand, that becomes the second; else the accumulator becomes the first, which is written too
abbrev pub exchanged_if : Instr → Width → Registers → ℕ → ℕ → Effect
exchanged_if i w r a b =
    let e = settled r (binary Sub w (part w 0 r) a r.flags).flags in
    if part w 0 r == a then stored w i.first b r e
    else (let d = stored w i.first a r e in record d { registers = with_part w 0 a d.registers })

-- CMPXCHG
unfoldable pub compared_exchanged : Instr → Width → Machine → Result Effect Stop
compared_exchanged i w m = with_both i w m (λ a b. Ok (exchanged_if i w m.registers a b))

-- LEA: nothing is read
unfoldable pub loaded_address : Instr → Width → Registers → Result Effect Stop
loaded_address i w r = Ok (into_first i w (address_in i.second r % size w) r)

-- MOVZX from the width v
unfoldable pub moved_zero : Width → Instr → Width → Machine → Result Effect Stop
moved_zero v i w m = with_second i v m (λ a. Ok (into_first i w (a % size w) m.registers))

-- MOVSX from the width v
unfoldable pub moved_sign : Width → Instr → Width → Machine → Result Effect Stop
moved_sign v i w m = with_second i v m (λ a. Ok (into_first i w (sign_extended v Doubleword a % size w) m.registers))

abbrev pub narrower : Width → Width
narrower Byte = Byte
narrower Word = Byte
narrower Doubleword = Word

-- CBW, CWDE
unfoldable pub converted : Width → Registers → Result Effect Stop
converted w r = Ok (unwritten (with_part w 0 (sign_extended (narrower w) w (part (narrower w) 0 r)) r))

-- CWD, CDQ: DX or EDX becomes the sign of AX or EAX
unfoldable pub converted_double : Width → Registers → Result Effect Stop
converted_double w r = Ok (unwritten (with_part w 2 (if is_negative w (part w 0 r) then (size w - 1) else 0) r))

-- CMOVcc: the second operand is always read
unfoldable pub moved_if : Bool → Instr → Width → Machine → Result Effect Stop
moved_if c i w m = with_second i w m (λ a. Ok (if c then into_first i w a m.registers else settled m.registers m.registers.flags))

-- SETcc
unfoldable pub set_if : Bool → Instr → Registers → Result Effect Stop
set_if c i r = Ok (into_first i Byte (if c then 1 else 0) r)

-- BSWAP
unfoldable pub swapped_bytes : Instr → Machine → Result Effect Stop
swapped_bytes i m = with_first i Doubleword m (λ a. Ok (into_first i Doubleword (swapped a) m.registers))
