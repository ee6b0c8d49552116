-- The registers of an IA-32 program: Intel SDM volume 1, "Basic Program Execution Registers".
use Rattle.std.specs.Prelude.{ℕ, ◌+◌, ◌*◌, ◌/◌, ◌%◌, ◌^◌, nat_lt, replicate, slice_index, slice_set, if◌then◌else◌}
use Rattle.ia32_arithmetic.specs.declared.widths.Width.{Width}
use Rattle.ia32_arithmetic.specs.declared.widths.Width.TheVariants.{Byte, Word, Doubleword}
use Rattle.ia32_arithmetic.specs.Flags.{clear}
use Rattle.ia32_step.specs.declared.registers.Regs.{Regs}

abbrev pub Registers : Type 0
Registers = Regs

-- each register is 0, and each flag clear
abbrev pub at_reset : Registers
at_reset = record { general = replicate 8 0; eip = 0; flags = clear }

-- the general registers by number: EAX, ECX, EDX, EBX, ESP, EBP, ESI, EDI
abbrev pub ECX : ℕ
ECX = 1

abbrev pub ESP : ℕ
ESP = 4

abbrev pub EBP : ℕ
EBP = 5

abbrev pub ESI : ℕ
ESI = 6

abbrev pub EDI : ℕ
EDI = 7

abbrev pub general_of : Registers → ℕ → ℕ
general_of r n = slice_index r.general n

abbrev pub with_general : ℕ → ℕ → Registers → Registers
with_general n v r = record r { general = slice_set r.general n v }

-- what the three bits of a register field name (volume 2, table 2-2): AL, CL, DL, BL, AH, CH, DH, BH; AX to DI; EAX to EDI
unfoldable pub part : Width → ℕ → Registers → ℕ
part Byte n r = if nat_lt (n % 8) 4 then general_of r (n % 4) % 2 ^ 8 else (general_of r (n % 4) / 2 ^ 8 % 2 ^ 8)
part Word n r = general_of r (n % 8) % 2 ^ 16
part Doubleword n r = general_of r (n % 8)

-- the rest of a register stays
unfoldable pub with_part : Width → ℕ → ℕ → Registers → Registers
with_part Byte n v r =
    let old = general_of r (n % 4) in
    if nat_lt (n % 8) 4 then with_general (n % 4) (old / 2 ^ 8 * 2 ^ 8 + v) r
    else with_general (n % 4) (old / 2 ^ 16 * 2 ^ 16 + v * 2 ^ 8 + old % 2 ^ 8) r
with_part Word n v r = with_general (n % 8) (general_of r (n % 8) / 2 ^ 16 * 2 ^ 16 + v) r
with_part Doubleword n v r = with_general (n % 8) v r
