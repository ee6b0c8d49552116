-- Jumps and calls to an address, and their bytes: Intel SDM volume 2, the pages of CALL, Jcc, JMP, JECXZ and LOOPcc. Of two forms the one
-- with a displacement of four bytes is taken.
use Rattle.std.specs.Prelude.{ℕ, ◌+◌, ◌-◌, ◌%◌, ◌^◌, Bool, true, ◌||◌, nat_lt, nat_le, List, [], ◌∷◌, Option, Some, None}
use Rattle.std.specs.Int.{w32, to_le_bytes}
use Rattle.ia32_decode.specs.declared.instruction.Op.{Op}
use Rattle.ia32_decode.specs.declared.instruction.Op.TheVariants as ops
use Rattle.ia32_fields.specs.Jumps.{bits_of}
use Rattle.asm_encode.specs.declared.jumps.Jump.{Jump}
use Rattle.asm_encode.specs.declared.jumps.Jump.TheVariants.{Near, Conditional, Short}

abbrev pub jump_of : Op → Option Jump
jump_of ops.Call = Some (Near 0xE8)
jump_of ops.Jmp = Some (Near 0xE9)
jump_of (ops.Jcc condition) = Some (Conditional (0x80 + bits_of condition))
jump_of ops.Loopne = Some (Short 0xE0)
jump_of ops.Loope = Some (Short 0xE1)
jump_of ops.Loop = Some (Short 0xE2)
jump_of ops.Jecxz = Some (Short 0xE3)
jump_of _ = None

-- how many bytes a jump has
abbrev pub jump_length : Jump → ℕ
jump_length (Near opcode) = 5
jump_length (Conditional opcode) = 6
jump_length (Short opcode) = 2

-- from an end to a target, modulo 2^32
abbrev pub displacement : ℕ → ℕ → ℕ
displacement target end = (target + (2 ^ 32 - end)) % 2 ^ 32

-- it fits its field: one of a byte is from -128 to 127
abbrev pub fits_in : Jump → ℕ → Bool
fits_in (Near opcode) n = true
fits_in (Conditional opcode) n = true
fits_in (Short opcode) n = nat_lt n (2 ^ 7) || nat_le (2 ^ 32 - 2 ^ 7) n

-- the bytes of a jump with a displacement
abbrev pub jump_bytes : Jump → ℕ → List ℕ
jump_bytes (Near opcode) n = opcode ∷ to_le_bytes w32 n
jump_bytes (Conditional opcode) n = 0x0F ∷ opcode ∷ to_le_bytes w32 n
jump_bytes (Short opcode) n = opcode ∷ n % 2 ^ 8 ∷ []
