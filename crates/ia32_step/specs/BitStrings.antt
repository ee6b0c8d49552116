-- Bits of operands: Intel SDM volume 2, BT, BTS, BTR, BTC, BSF and BSR.
use Rattle.std.specs.Prelude.{ℕ, ◌+◌, ◌-◌, ◌*◌, ◌/◌, ◌%◌, ◌^◌, ◌==◌, Option, None, Some, Result, Ok, if◌then◌else◌}
use Rattle.ia32_arithmetic.specs.declared.widths.Width.{Width}
use Rattle.ia32_arithmetic.specs.declared.widths.Width.TheVariants.{Doubleword}
use Rattle.ia32_arithmetic.specs.declared.bits.BitOp.{BitOp}
use Rattle.ia32_arithmetic.specs.Widths.{bits, bytes, sign_extended}
use Rattle.ia32_arithmetic.specs.Bits.{has_bit, changed_bit, lowest_bit, highest_bit}
use Rattle.ia32_decode.specs.declared.instruction.Instr.{Instr}
use Rattle.ia32_decode.specs.declared.instruction.Operand.{Operand}
use Rattle.ia32_decode.specs.declared.instruction.Operand.TheVariants.{Reg, Place}
use Rattle.ia32_step.specs.declared.effects.Stop.{Stop}
use Rattle.ia32_step.specs.Registers.{Registers}
use Rattle.ia32_step.specs.State.{Machine, Effect}
use Rattle.ia32_step.specs.Operands.{and_then, load, with_second, stored, settled}

-- From the operand's address to that of the number with the bit, in bytes: the signed offset, divided by the width and rounded down, times the
-- bytes of a number. The offset and 2^31 is never below 0, and 2^31 bits are 2^28 bytes.
unfoldable pub displacement : Width → ℕ → ℕ
displacement w offset = ((sign_extended w Doubleword offset + 2 ^ 31) % 2 ^ 32 / bits w * bytes w + (2 ^ 32 - 2 ^ 28)) % 2 ^ 32

abbrev pub place_at : Operand → Operand → ℕ → Operand
place_at (Place base index scale offset) (Reg n) d = Place base index scale ((offset + d) % 2 ^ 32)
place_at first second d = first

-- the operand with the bit: an offset in a register goes through all of memory
unfoldable pub place_of_bit : Instr → Width → ℕ → Operand
place_of_bit i w offset = place_at i.first i.second (displacement w offset)

abbrev pub bit_stored : Option BitOp → Width → Operand → ℕ → ℕ → Registers → Effect → Effect
bit_stored None w place a n r e = e
bit_stored (Some op) w place a n r e = stored w place (changed_bit op a n) r e

-- BT, and with an operation BTS, BTR, BTC: CF is the bit as it was; the other flags are undefined
unfoldable pub bit_done : Option BitOp → Instr → Width → Machine → Result Effect Stop
bit_done op i w m =
    let r = m.registers in
    with_second i w m (λ offset.
    let place = place_of_bit i w offset in
    let n = offset % bits w in
    and_then (load w place i.imm m) (λ a. Ok (bit_stored op w place a n r (settled r (record r.flags { carry = has_bit a n })))))

-- ZF says that the source is 0, and then the destination stays; the other flags are undefined
abbrev pub found : Instr → Width → ℕ → ℕ → Registers → Effect
found i w a n r =
    let e = settled r (record r.flags { zero = a == 0 }) in
    if a == 0 then e else stored w i.first n r e

-- BSF
unfoldable pub scanned_forward : Instr → Width → Machine → Result Effect Stop
scanned_forward i w m = with_second i w m (λ a. Ok (found i w a (lowest_bit a) m.registers))

-- BSR
unfoldable pub scanned_back : Instr → Width → Machine → Result Effect Stop
scanned_back i w m = with_second i w m (λ a. Ok (found i w a (highest_bit a) m.registers))
