-- Operands, and what an instruction leaves: Intel SDM volume 1, "Operand Addressing".
use Rattle.std.specs.Prelude.{ℕ, ◌≡◌, ◌+◌, ◌*◌, ◌%◌, ◌^◌, ◌<◌, List, ◌++◌, Option, None, Some, Result, Ok, Err}
use Rattle.std.specs.FinMap as map
use Rattle.std.specs.Int.{w8, w16, w32, from_le_bytes, to_le_bytes}
use Rattle.nd_mem.specs.declared.MemFault.{MemFault}
use Rattle.nd_mem.specs.Space.{Space, Reading, Writing, first_fault, bytes_from, put_from}
use Rattle.ia32_arithmetic.specs.declared.widths.Width.{Width}
use Rattle.ia32_arithmetic.specs.declared.widths.Width.TheVariants.{Byte, Word, Doubleword}
use Rattle.ia32_arithmetic.specs.declared.flags.Flags.{Flags}
use Rattle.ia32_arithmetic.specs.Widths.{bytes, size}
use Rattle.ia32_decode.specs.declared.instruction.Instr.{Instr}
use Rattle.ia32_decode.specs.declared.instruction.Operand.{Operand}
use Rattle.ia32_decode.specs.declared.instruction.Operand.TheVariants.{Absent, Reg, Place, Imm}
use Rattle.ia32_step.specs.declared.effects.Stop.{Stop}
use Rattle.ia32_step.specs.declared.effects.Stop.TheVariants.{Memory}
use Rattle.ia32_step.specs.declared.effects.Write.{Write}
use Rattle.ia32_step.specs.declared.effects.Write.TheVariants as write
use Rattle.ia32_step.specs.Registers.{Registers, general_of, part, with_part}
use Rattle.ia32_step.specs.State.{Machine, machine, Effect, left}

-- an instruction stops at its first step that has no result
abbrev pub and_then : {A B : Type 0} → Result A Stop → (A → Result B Stop) → Result B Stop
and_then (Ok a) f = f a
and_then (Err e) f = Err e

abbrev pub unless : {A : Type 0} → Option MemFault → A → Result A Stop
unless None a = Ok a
unless (Some fault) a = Err (Memory fault)

-- ---- what is read

abbrev pub register_or_none : Option ℕ → Registers → ℕ
register_or_none None r = 0
register_or_none (Some n) r = general_of r (n % 8)

-- base, index times scale, and displacement
unfoldable pub address_of : Option ℕ → Option ℕ → ℕ → ℕ → Registers → ℕ
address_of base index scale offset r = (register_or_none base r + register_or_none index r * scale + offset) % 2 ^ 32

abbrev pub number : Width → List ℕ → ℕ
number Byte xs = from_le_bytes w8 xs
number Word xs = from_le_bytes w16 xs
number Doubleword xs = from_le_bytes w32 xs

abbrev pub bytes_of : Width → ℕ → List ℕ
bytes_of Byte n = to_le_bytes w8 n
bytes_of Word n = to_le_bytes w16 n
bytes_of Doubleword n = to_le_bytes w32 n

-- the number in memory, the lowest byte first
unfoldable pub read : Width → ℕ → Space → Result ℕ Stop
read w a m = unless (first_fault Reading (map.get m) a (bytes w)) (number w (bytes_from (map.get m) a (bytes w)))

-- an operand's number, where this is the instruction's immediate
unfoldable pub load : Width → Operand → ℕ → Machine → Result ℕ Stop
load w (Reg n) imm m = Ok (part w n m.registers)
load w (Place base index scale offset) imm m = read w (address_of base index scale offset m.registers) m.memory
load w Imm imm m = Ok (imm % size w)
load w Absent imm m = Ok 0

abbrev pub with_first : Instr → Width → Machine → (ℕ → Result Effect Stop) → Result Effect Stop
with_first i w m f = and_then (load w i.first i.imm m) f

abbrev pub with_second : Instr → Width → Machine → (ℕ → Result Effect Stop) → Result Effect Stop
with_second i w m f = and_then (load w i.second i.imm m) f

-- the first operand is read before the second
abbrev pub with_both : Instr → Width → Machine → (ℕ → ℕ → Result Effect Stop) → Result Effect Stop
with_both i w m f = and_then (load w i.first i.imm m) (λ a. and_then (load w i.second i.imm m) (λ b. f a b))

-- ---- what is left

-- the registers with these flags, and no write
abbrev pub settled : Registers → Flags → Effect
settled r f = record { registers = record r { flags = f }; write = write.Absent }

-- the address in an operand
unfoldable pub address_in : Operand → Registers → ℕ
address_in (Place base index scale offset) r = address_of base index scale offset r
address_in Imm r = 0
address_in Absent r = 0
address_in (Reg n) r = 0

-- these registers, and no write
abbrev pub unwritten : Registers → Effect
unwritten r = left r write.Absent

-- a register changes, or memory is to be written, at this address
unfoldable pub stored_at : Width → Operand → ℕ → ℕ → Effect → Effect
stored_at w (Reg n) a v e = record e { registers = with_part w n v e.registers }
stored_at w (Place base index scale offset) a v e = record e { write = write.Number w a v }
stored_at w Imm a v e = e
stored_at w Absent a v e = e

-- at the address that these registers give
abbrev pub stored : Width → Operand → ℕ → Registers → Effect → Effect
stored w o v r e = stored_at w o (address_in o r) v e

-- what is to be written is a number of its width
abbrev pub IsWrite : Write → Type 0
IsWrite write.Absent = Unit {0}
IsWrite (write.Number w a v) = v < size w
IsWrite (write.Registers a) = Unit {0}

-- An instruction in place: the registers become the effect's, and its write is still to be made; without a result nothing is said of them.
abbrev pub Leaves : Result Write Stop → Registers → Result Effect Stop → Type 0
Leaves (Ok w) r e = (e ≡ Ok (left r w)) × IsWrite w
Leaves (Err s) r e = e ≡ Err s

-- the general registers, EDI at the lowest address, the lowest byte of each first
unfoldable pub bytes_of_all : Registers → List ℕ
bytes_of_all r =
    let at = λ (k : ℕ). to_le_bytes w32 (general_of r k) in
    at 7 ++ at 6 ++ at 5 ++ at 4 ++ at 3 ++ at 2 ++ at 1 ++ at 0

-- where these were the registers before the instruction
abbrev pub written : Write → Registers → Space → Result Space Stop
written write.Absent r m = Ok m
written (write.Number w a v) r m = unless (first_fault Writing (map.get m) a (bytes w)) (put_from m a (bytes_of w v))
written (write.Registers a) r m = unless (first_fault Writing (map.get m) a 32) (put_from m a (bytes_of_all r))

-- the write is made, and then the registers are the effect's
unfoldable pub committed : Effect → Machine → Result Machine Stop
committed e m = and_then (written e.write m.registers m.memory) (λ s. Ok (machine e.registers s))

abbrev pub answer_to : {A : Type 0} → Result A Stop → Result (Unit {0}) Stop
answer_to (Ok _) = Ok tt
answer_to (Err e) = Err e

-- without a result the machine is as it was
abbrev pub after : {A : Type 0} → Result A Stop → A → A
after (Ok n) m = n
after (Err _) m = m
