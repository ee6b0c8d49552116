-- A repeated MOVS: Intel SDM volume 2, MOVS and REP. Addresses go on from 0xFFFFFFFF at 0, as everywhere.
use Rattle.std.specs.Prelude.{ℕ, zero, suc, ◌≡◌, ◌≢◌, ◌+◌, ◌*◌, ◌<◌, ◌^◌, false, List, ◌++◌, length, slice_set, None}
use Rattle.nd_mem.specs.Space.{Reading, Writing, wrapped, first_fault, bytes_from, put_from}
use Rattle.guest_map.specs.Slots.{slot_at}
use Rattle.codes.specs.Exact.{AreBytes}
use Rattle.ia32_arithmetic.specs.declared.widths.Width.{Width}
use Rattle.ia32_arithmetic.specs.Widths.{bytes}
use Rattle.ia32_decode.specs.Decoding.{Spells}
use Rattle.ia32_decode.specs.declared.instruction.Instr.{Instr}
use Rattle.ia32_decode.specs.declared.instruction.Op.TheVariants.{Movs}
use Rattle.ia32_decode.specs.declared.instruction.Repeat.TheVariants.{F3}
use Rattle.ia32_step.specs.Registers.{Registers, ECX, ESI, EDI, general_of}
use Rattle.ia32_step.specs.Meaning.{width_of}
use Rattle.ia32_step.specs.Machine.{Machine, machine, Moved, outcome, moved, code_of}
use Rattle.ia32_step.specs.State.{cells_of}

-- a machine so many steps on
unfoldable pub stepped : ℕ → Machine → Machine
stepped zero m = m
stepped (suc n) m = stepped n (moved m)

-- no byte of the one range is a byte of the other
abbrev pub AreApart : ℕ → ℕ → ℕ → ℕ → Type 0
AreApart a m b n = (j k : ℕ) → j < m → k < n → wrapped (a + j) ≢ wrapped (b + k)

-- REP MOVS of the width
pub record IsRepeatedMove (w : Width) (i : Instr) : Type 0 where
  pub operation : i.op ≡ Movs
  pub width : width_of i.width ≡ w
  pub repeat : i.repeat ≡ F3

abbrev pub source : Machine → ℕ
source m = general_of m.registers ESI

abbrev pub destination : Machine → ℕ
destination m = general_of m.registers EDI

-- REP MOVS stands at EIP, upwards, with n numbers of the width left
pub record CopiesUp (w : Width) (n : ℕ) (i : Instr) (spelling : List ℕ) (m : Machine) : Type 0 where
  pub repeated : IsRepeatedMove w i
  pub spelled : Spells spelling i
  pub rest : List ℕ
  pub stands : spelling ++ rest ≡ code_of m
  pub no_slot : slot_at m.registers.eip ≡ None
  pub registers : length m.registers.general ≡ 8
  pub count : general_of m.registers ECX ≡ n
  pub few : n < 2 ^ 32
  pub upwards : m.registers.flags.direction ≡ false
  -- the source can be read, and has bytes
  pub readable : first_fault Reading (cells_of m) (source m) (n * bytes w) ≡ None
  pub are_bytes : AreBytes (bytes_from (cells_of m) (source m) (n * bytes w))
  -- the destination can be written, and holds neither the source nor the instruction
  pub writable : first_fault Writing (cells_of m) (destination m) (n * bytes w) ≡ None
  pub apart : AreApart (destination m) (n * bytes w) (source m) (n * bytes w)
  pub beside : AreApart (destination m) (n * bytes w) m.registers.eip (length spelling)

-- EIP is behind the instruction of so many bytes, ESI and EDI are behind n numbers, and ECX is 0
abbrev pub copied_registers : Width → ℕ → ℕ → Registers → Registers
copied_registers w n long r = record r {
  general = slice_set (slice_set (slice_set r.general ESI (wrapped (general_of r ESI + n * bytes w))) EDI (wrapped (general_of r EDI + n * bytes w))) ECX 0;
  eip = wrapped (r.eip + long);
}

pub record CopyLaws : Type 0 where
  -- As many steps as ECX says leave in the destination what is in the source, and all other memory as it was.
  pub copied : (w : Width) (n : ℕ) (i : Instr) (spelling : List ℕ) (m : Machine) → CopiesUp w (suc n) i spelling m
      → stepped (suc n) m ≡ machine (copied_registers w (suc n) (length spelling) m.registers) (put_from m.memory (destination m) (bytes_from (cells_of m) (source m) (suc n * bytes w)))
  -- None of them faults.
  pub goes_on : (w : Width) (n k : ℕ) (i : Instr) (spelling : List ℕ) (m : Machine) → CopiesUp w n i spelling m → k < n → outcome (stepped k m) ≡ Moved (stepped (suc k) m)
