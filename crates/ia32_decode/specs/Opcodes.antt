-- Opcodes: Intel SDM volume 2, appendix A. The maps are the tables of the code (first_map.rt, second_map.rt, groups.rt).
use Rattle.std.specs.Prelude.{ℕ, ◌/◌, ◌%◌, Bool, false, List, Option, Some, None, slice_index_or}
use Rattle.std.specs.List.{list_any}
use Rattle.codes.specs.Codes.{Code, nothing, branch}
use Rattle.ia32_decode.specs.Rows.{is_absent, allows, by_modrm, addressed}
use Rattle.ia32_decode.specs.declared.prefixes.Prefixes.{Prefixes}
use Rattle.ia32_decode.specs.declared.instruction.Instr.{Instr}
use Rattle.ia32_decode.specs.declared.rows.Row.{Row}
use Rattle.ia32_decode.specs.declared.rows.Group.{Group}
use Rattle.ia32_decode.specs.declared.rows.Group.TheVariants as groups
use Rattle.ia32_decode.specs.declared.rows.Entry.{Entry}
use Rattle.ia32_decode.specs.declared.rows.Entry.TheVariants as entries
use Rattle.ia32_decode.specs.declared.first_map.TheConstants.{FIRST}
use Rattle.ia32_decode.specs.declared.second_map.TheConstants.{SECOND}
use Rattle.ia32_decode.specs.declared.groups.TheConstants.{GROUP_80, GROUP_81, GROUP_83, GROUP_8F, GROUP_C0, GROUP_C1, GROUP_C6, GROUP_C7, GROUP_D0, GROUP_D1, GROUP_D2, GROUP_D3, GROUP_F6, GROUP_F7, GROUP_FE, GROUP_FF, GROUP_0FBA}

-- ---- the tables

unfoldable pub first_of : ℕ → Entry
first_of opcode = slice_index_or FIRST opcode entries.Outside

unfoldable pub second_of : ℕ → Entry
second_of opcode = slice_index_or SECOND opcode entries.Outside

unfoldable pub rows_of : Group → List (Option Row)
rows_of groups.At80 = GROUP_80
rows_of groups.At81 = GROUP_81
rows_of groups.At83 = GROUP_83
rows_of groups.At8F = GROUP_8F
rows_of groups.AtC0 = GROUP_C0
rows_of groups.AtC1 = GROUP_C1
rows_of groups.AtC6 = GROUP_C6
rows_of groups.AtC7 = GROUP_C7
rows_of groups.AtD0 = GROUP_D0
rows_of groups.AtD1 = GROUP_D1
rows_of groups.AtD2 = GROUP_D2
rows_of groups.AtD3 = GROUP_D3
rows_of groups.AtF6 = GROUP_F6
rows_of groups.AtF7 = GROUP_F7
rows_of groups.AtFE = GROUP_FE
rows_of groups.AtFF = GROUP_FF
rows_of groups.At0FBA = GROUP_0FBA

-- the row that the reg field of a ModRM byte, bits 3 to 5, chooses
abbrev pub row_of : Group → ℕ → Option Row
row_of group modrm = slice_index_or (rows_of group) (modrm / 8 % 8) None

-- ---- an opcode and what stands behind it

abbrev pub may_allow : Prefixes → Option Row → Bool
may_allow prefixes None = false
may_allow prefixes (Some row) = allows prefixes row

-- some instruction has these prefixes before such an opcode
abbrev pub opens : Prefixes → Entry → Bool
opens prefixes entries.Outside = false
opens prefixes entries.Escape = false
opens prefixes (entries.One row) = allows prefixes row
opens prefixes (entries.Group group) = list_any (may_allow prefixes) (rows_of group)

unfoldable pub behind_opcode : Prefixes → ℕ → Entry → Code Instr
behind_opcode prefixes opcode entries.Outside = nothing
behind_opcode prefixes opcode entries.Escape = nothing
behind_opcode prefixes opcode (entries.One row) = addressed prefixes opcode row row.form.addressing
behind_opcode prefixes opcode (entries.Group group) = by_modrm prefixes opcode (row_of group)

-- behind 0F
unfoldable pub extended : Prefixes → Code Instr
extended prefixes = branch (λ opcode. opens prefixes (second_of opcode)) (λ opcode. behind_opcode prefixes opcode (second_of opcode))

-- some instruction has these prefixes before this first byte of an opcode
unfoldable pub opens_first : Prefixes → Entry → Bool
opens_first prefixes entries.Escape = is_absent prefixes.repeat
opens_first prefixes entries.Outside = false
opens_first prefixes (entries.One row) = allows prefixes row
opens_first prefixes (entries.Group group) = list_any (may_allow prefixes) (rows_of group)

abbrev pub after_first : Prefixes → ℕ → Entry → Code Instr
after_first prefixes opcode entries.Escape = extended prefixes
after_first prefixes opcode entries.Outside = behind_opcode prefixes opcode entries.Outside
after_first prefixes opcode (entries.One row) = behind_opcode prefixes opcode (entries.One row)
after_first prefixes opcode (entries.Group group) = behind_opcode prefixes opcode (entries.Group group)

-- the opcode and all that stands behind it
unfoldable pub body : Prefixes → Code Instr
body prefixes = branch (λ opcode. opens_first prefixes (first_of opcode)) (λ opcode. after_first prefixes opcode (first_of opcode))
