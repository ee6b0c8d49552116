-- Which instruction a row of the opcode map is, and what is spelled behind its opcode: Intel SDM volume 2, sections 2.1 and 3.1.1.
use Rattle.std.specs.Prelude.{ℕ, ◌/◌, ◌%◌, ◌&&◌, ◌||◌, not, nat_lt, Bool, true, false, Option, Some, None, if◌then◌else◌}
use Rattle.codes.specs.Codes.{Code, done, nothing, byte, either, ◌>>=◌}
use Rattle.ia32_decode.specs.Operands.{place, offset_alone, immediate}
use Rattle.ia32_decode.specs.declared.prefixes.Prefixes.{Prefixes}
use Rattle.ia32_decode.specs.declared.instruction.Instr.{Instr}
use Rattle.ia32_decode.specs.declared.instruction.Operand.{Operand}
use Rattle.ia32_decode.specs.declared.instruction.Operand.TheVariants as operands
use Rattle.ia32_decode.specs.declared.instruction.Repeat.{Repeat}
use Rattle.ia32_decode.specs.declared.instruction.Repeat.TheVariants as repeats
use Rattle.ia32_decode.specs.declared.rows.Repeats.{Repeats}
use Rattle.ia32_decode.specs.declared.rows.Repeats.TheVariants as permitted
use Rattle.ia32_decode.specs.declared.rows.Row.{Row}
use Rattle.ia32_decode.specs.declared.forms.Width.{Width}
use Rattle.ia32_decode.specs.declared.forms.Width.TheVariants as widths
use Rattle.ia32_decode.specs.declared.forms.Addressing.{Addressing}
use Rattle.ia32_decode.specs.declared.forms.Addressing.TheVariants as addressings
use Rattle.ia32_decode.specs.declared.forms.Source.{Source}
use Rattle.ia32_decode.specs.declared.forms.Source.TheVariants as sources

-- ---- the instruction

abbrev pub width_of : Width → Bool → ℕ
width_of widths.Byte short = 1
width_of widths.OperandSize short = if short then 2 else 4
width_of widths.Doubleword short = 4

-- rm is what the addressing names
abbrev pub operand_of : Source → ℕ → ℕ → Operand → Operand
operand_of sources.Absent opcode modrm rm = operands.Absent
operand_of sources.Rm opcode modrm rm = rm
operand_of sources.Reg opcode modrm rm = operands.Reg (modrm / 8 % 8)
operand_of sources.Opcode opcode modrm rm = operands.Reg (opcode % 8)
operand_of sources.Accumulator opcode modrm rm = operands.Reg 0
operand_of sources.Counter opcode modrm rm = operands.Reg 1
operand_of sources.Immediate opcode modrm rm = operands.Imm

unfoldable pub built : Prefixes → ℕ → Row → ℕ → Operand → ℕ → Instr
built prefixes opcode row modrm rm n = record {
  op = row.op;
  width = width_of row.form.width prefixes.operand_size;
  first = operand_of row.form.first opcode modrm rm;
  second = operand_of row.form.second opcode modrm rm;
  imm = n;
  repeat = prefixes.repeat;
  lock = prefixes.lock;
}

-- ---- which prefixes may stand

abbrev pub is_absent : Repeat → Bool
is_absent repeats.Absent = true
is_absent repeats.F2 = false
is_absent repeats.F3 = false

abbrev pub permits : Repeats → Repeat → Bool
permits permitted.Neither repeats.Absent = true
permits permitted.Neither repeats.F2 = false
permits permitted.Neither repeats.F3 = false
permits permitted.Three repeats.Absent = true
permits permitted.Three repeats.F2 = false
permits permitted.Three repeats.F3 = true
permits permitted.Either _ = true

-- these prefixes may stand before the row
unfoldable pub allows : Prefixes → Row → Bool
allows prefixes row = (not prefixes.operand_size || row.permits.operand_size) && (not prefixes.lock || row.permits.lock) && permits row.permits.repeat prefixes.repeat

abbrev pub is_memory_only : Addressing → Bool
is_memory_only addressings.Memory = true
is_memory_only addressings.Absent = false
is_memory_only addressings.Any = false
is_memory_only addressings.Offset = false

-- and before this ModRM byte: behind F0 it names memory
unfoldable pub fits : Prefixes → Row → ℕ → Bool
fits prefixes row modrm = allows prefixes row && ((not prefixes.lock && not (is_memory_only row.form.addressing)) || nat_lt modrm 0xC0)

-- ---- what stands behind the opcode: ModRM, SIB and displacement, or an offset; then the immediate

unfoldable pub ending : Prefixes → ℕ → Row → ℕ → Operand → Code Instr
ending prefixes opcode row modrm rm = immediate row.form.immediate prefixes.operand_size >>= λ n. done (built prefixes opcode row modrm rm n)

abbrev pub after_modrm : Prefixes → ℕ → ℕ → Option Row → Code Instr
after_modrm prefixes opcode modrm None = nothing
after_modrm prefixes opcode modrm (Some row) = place modrm >>= λ rm. ending prefixes opcode row modrm rm

abbrev pub may_fit : Prefixes → Option Row → ℕ → Bool
may_fit prefixes None modrm = false
may_fit prefixes (Some row) modrm = fits prefixes row modrm

-- a ModRM byte, and the row that it chooses
unfoldable pub by_modrm : Prefixes → ℕ → (ℕ → Option Row) → Code Instr
by_modrm prefixes opcode row_at = byte (λ modrm. may_fit prefixes (row_at modrm) modrm) >>= λ modrm. after_modrm prefixes opcode modrm (row_at modrm)

unfoldable pub at_offset : Prefixes → ℕ → Row → Code Instr
at_offset prefixes opcode row = offset_alone >>= λ rm. ending prefixes opcode row 0 rm

abbrev pub addressed : Prefixes → ℕ → Row → Addressing → Code Instr
addressed prefixes opcode row addressings.Absent = either (allows prefixes row) (ending prefixes opcode row 0 operands.Absent) nothing
addressed prefixes opcode row addressings.Offset = either (allows prefixes row) (at_offset prefixes opcode row) nothing
addressed prefixes opcode row addressings.Any = by_modrm prefixes opcode (λ modrm. Some row)
addressed prefixes opcode row addressings.Memory = by_modrm prefixes opcode (λ modrm. Some row)
