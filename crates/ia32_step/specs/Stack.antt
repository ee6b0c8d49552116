-- Pushes and pops, of numbers, of the flags and of all registers: Intel SDM volume 2, the page of each instruction.
use Rattle.std.specs.Prelude.{ℕ, ◌+◌, ◌-◌, ◌%◌, ◌^◌, [], ◌∷◌, Result, Ok}
use Rattle.ia32_arithmetic.specs.declared.widths.Width.{Width}
use Rattle.ia32_arithmetic.specs.declared.widths.Width.TheVariants.{Byte, Doubleword}
use Rattle.ia32_arithmetic.specs.Widths.{bytes}
use Rattle.ia32_arithmetic.specs.Flags.{word_of, of_word}
use Rattle.ia32_decode.specs.declared.instruction.Instr.{Instr}
use Rattle.ia32_step.specs.declared.effects.Stop.{Stop}
use Rattle.ia32_step.specs.declared.effects.Write.TheVariants as write
use Rattle.ia32_step.specs.Registers.{Registers, ESP, general_of, with_general, part, with_part}
use Rattle.ia32_step.specs.State.{Machine, Effect}
use Rattle.ia32_step.specs.Operands.{and_then, read, with_first, stored, settled, unwritten}

-- a number goes onto the stack
unfoldable pub push : Width → ℕ → Registers → Effect
push w v r =
    let top = (general_of r ESP + 2 ^ 32 - bytes w) % 2 ^ 32 in
    record { registers = with_general ESP top r; write = write.Number w top v }

-- PUSH
unfoldable pub pushed : Instr → Width → Machine → Result Effect Stop
pushed i w m = with_first i w m (λ v. Ok (push w v m.registers))

-- POP: the address of a destination in memory is by the new ESP
unfoldable pub popped : Instr → Width → Machine → Result Effect Stop
popped i w m =
    let top = general_of m.registers ESP in
    let next = with_general ESP ((top + bytes w) % 2 ^ 32) m.registers in
    and_then (read w top m.memory) (λ v. Ok (stored w i.first v next (settled next next.flags)))

-- PUSHAD: one write of the registers as they were
unfoldable pub all_pushed : Registers → Result Effect Stop
all_pushed r =
    let top = (general_of r ESP + 2 ^ 32 - 32) % 2 ^ 32 in
    Ok (record { registers = with_general ESP top r; write = write.Registers top })

abbrev pub read_at : Machine → ℕ → (ℕ → Result Effect Stop) → Result Effect Stop
read_at m k f = and_then (read Doubleword ((general_of m.registers ESP + k) % 2 ^ 32) m.memory) f

-- POPAD, from the lowest address up; ESP is read too, and not taken
unfoldable pub all_popped : Machine → Result Effect Stop
all_popped m =
    let r = m.registers in
    read_at m 0 (λ edi. read_at m 4 (λ esi. read_at m 8 (λ ebp. read_at m 12 (λ esp. read_at m 16 (λ ebx. read_at m 20 (λ edx. read_at m 24 (λ ecx. read_at m 28 (λ eax.
    Ok (settled (record r { general = eax ∷ ecx ∷ edx ∷ ebx ∷ ((general_of r ESP + 32) % 2 ^ 32) ∷ ebp ∷ esi ∷ edi ∷ [] }) r.flags)))))))))

-- PUSHFD
unfoldable pub flags_pushed : Registers → Result Effect Stop
flags_pushed r = Ok (push Doubleword (word_of r.flags) r)

-- POPFD
unfoldable pub flags_popped : Machine → Result Effect Stop
flags_popped m =
    let top = general_of m.registers ESP in
    and_then (read Doubleword top m.memory) (λ n. Ok (settled (with_general ESP ((top + 4) % 2 ^ 32) m.registers) (of_word n)))

-- LAHF: AH (4) becomes the low byte of the flags
unfoldable pub flags_loaded : Registers → Result Effect Stop
flags_loaded r = Ok (unwritten (with_part Byte 4 (word_of r.flags % 2 ^ 8) r))

-- SAHF: DF and OF stay
unfoldable pub flags_stored : Registers → Result Effect Stop
flags_stored r = Ok (settled r (record (of_word (part Byte 4 r)) { direction = r.flags.direction; overflow = r.flags.overflow }))
