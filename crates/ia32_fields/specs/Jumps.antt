-- Jumps and calls by a displacement: Intel SDM volume 2, the pages of CALL, Jcc, JMP, JECXZ and LOOPcc; the conditions as in its
-- appendix B, "Condition Test Field".
use Rattle.std.specs.Prelude.{ℕ, ◌+◌, ◌^◌, ◌<◌, false, [], ◌∷◌}
use Rattle.std.specs.Int.{w32, to_le_bytes}
use Rattle.ia32_decode.specs.Decoding.{Spells}
use Rattle.ia32_decode.specs.Operands.{sign_extended}
use Rattle.ia32_decode.specs.declared.instruction.Condition.{Condition}
use Rattle.ia32_decode.specs.declared.instruction.Condition.TheVariants as conditions
use Rattle.ia32_decode.specs.declared.instruction.Instr.{Instr}
use Rattle.ia32_decode.specs.declared.instruction.Op.{Op}
use Rattle.ia32_decode.specs.declared.instruction.Op.TheVariants as ops
use Rattle.ia32_decode.specs.declared.instruction.Operand.TheVariants as operands
use Rattle.ia32_decode.specs.declared.instruction.Repeat.TheVariants as repeats

-- a jump by a displacement from its end, modulo 2^32
abbrev pub jump : Op → ℕ → Instr
jump op displacement = record {
  op = op;
  width = 4;
  first = operands.Imm;
  second = operands.Absent;
  imm = displacement;
  repeat = repeats.Absent;
  lock = false;
}

-- a condition's four bits in an opcode
abbrev pub bits_of : Condition → ℕ
bits_of conditions.Overflow = 0
bits_of conditions.NotOverflow = 1
bits_of conditions.Below = 2
bits_of conditions.AboveOrEqual = 3
bits_of conditions.Equal = 4
bits_of conditions.NotEqual = 5
bits_of conditions.BelowOrEqual = 6
bits_of conditions.Above = 7
bits_of conditions.Sign = 8
bits_of conditions.NotSign = 9
bits_of conditions.Parity = 10
bits_of conditions.NotParity = 11
bits_of conditions.Less = 12
bits_of conditions.GreaterOrEqual = 13
bits_of conditions.LessOrEqual = 14
bits_of conditions.Greater = 15

pub record JumpsAreSpelled : Type 0 where
  -- with a displacement of four bytes
  pub call : (n : ℕ) → n < 2 ^ 32 → Spells (0xE8 ∷ to_le_bytes w32 n) (jump ops.Call n)
  pub jmp : (n : ℕ) → n < 2 ^ 32 → Spells (0xE9 ∷ to_le_bytes w32 n) (jump ops.Jmp n)
  pub jcc : (condition : Condition) (n : ℕ) → n < 2 ^ 32 → Spells (0x0F ∷ (0x80 + bits_of condition) ∷ to_le_bytes w32 n) (jump (ops.Jcc condition) n)
  -- with one of a byte with its sign
  pub loopne : (b : ℕ) → b < 2 ^ 8 → Spells (0xE0 ∷ b ∷ []) (jump ops.Loopne (sign_extended b))
  pub loope : (b : ℕ) → b < 2 ^ 8 → Spells (0xE1 ∷ b ∷ []) (jump ops.Loope (sign_extended b))
  pub loop : (b : ℕ) → b < 2 ^ 8 → Spells (0xE2 ∷ b ∷ []) (jump ops.Loop (sign_extended b))
  pub jecxz : (b : ℕ) → b < 2 ^ 8 → Spells (0xE3 ∷ b ∷ []) (jump ops.Jecxz (sign_extended b))
