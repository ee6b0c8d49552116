-- How operands and immediates are spelled: Intel SDM volume 2, section 2.1 (tables 2-2 and 2-3 for ModRM and SIB bytes).
use Rattle.std.specs.Prelude.{ℕ, ◌+◌, ◌-◌, ◌/◌, ◌%◌, ◌^◌, ◌&&◌, nat_lt, ◌==◌, Bool, Option, Some, None, if◌then◌else◌}
use Rattle.codes.specs.Codes.{Code, done, either, ◌>>=◌}
use Rattle.codes.specs.Numbers.{octet, little_endian_2, little_endian_4}
use Rattle.ia32_decode.specs.declared.forms.Immediate.{Immediate}
use Rattle.ia32_decode.specs.declared.forms.Immediate.TheVariants as immediates
use Rattle.ia32_decode.specs.declared.instruction.Operand.{Operand}
use Rattle.ia32_decode.specs.declared.instruction.Operand.TheVariants as operands

-- a byte as a number of 32 bits with the same sign
abbrev pub sign_extended : ℕ → ℕ
sign_extended b = if nat_lt b (2 ^ 7) then b else b + (2 ^ 32 - 2 ^ 8)

unfoldable pub signed_byte : Code ℕ
signed_byte = octet >>= λ b. done (sign_extended b)

-- ---- what a ModRM byte names: its mod field, bits 6 and 7, chooses the displacement or a register; its rm field, bits 0 to 2, the base

-- none, 8 bits or 32 bits
unfoldable pub displacement : ℕ → Code ℕ
displacement mode = either (mode == 0) (done 0) (either (mode == 1) signed_byte little_endian_4)

-- memory at a base register; but without one, at 32 bits, where mod is 0 and the base is 5
unfoldable pub based : ℕ → ℕ → Option ℕ → ℕ → Code Operand
based mode base index scale = either ((mode == 0) && (base == 5))
    (little_endian_4 >>= λ offset. done (operands.Place None index scale offset))
    (displacement mode >>= λ offset. done (operands.Place (Some base) index scale offset))

-- a SIB byte has the base in bits 0 to 2, the index in bits 3 to 5 (4 is none), the scale in bits 6 and 7
abbrev pub index_of : ℕ → Option ℕ
index_of sib = if sib / 8 % 8 == 4 then None else Some (sib / 8 % 8)

abbrev pub scale_of : ℕ → ℕ
scale_of sib = if sib / 8 % 8 == 4 then 1 else 2 ^ (sib / 64)

-- what a ModRM byte and those after it name
unfoldable pub place : ℕ → Code Operand
place modrm = either (modrm / 64 == 3)
    (done (operands.Reg (modrm % 8)))
    (either (modrm % 8 == 4)
    (octet >>= λ sib. based (modrm / 64) (sib % 8) (index_of sib) (scale_of sib))
    (based (modrm / 64) (modrm % 8) None 1))

-- memory at an offset alone
unfoldable pub offset_alone : Code Operand
offset_alone = little_endian_4 >>= λ offset. done (operands.Place None None 1 offset)

-- ---- immediates

-- behind the prefix 66 an immediate of the operand's size is short
unfoldable pub immediate : Immediate → Bool → Code ℕ
immediate immediates.Absent short = done 0
immediate immediates.One short = done 1
immediate immediates.Byte short = octet
immediate immediates.SignedByte short = signed_byte
immediate immediates.Word short = little_endian_2
immediate immediates.OperandSize short = either short little_endian_2 little_endian_4
immediate immediates.Doubleword short = little_endian_4
