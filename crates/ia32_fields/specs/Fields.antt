-- Fields of four bytes in what is spelled: Intel SDM volume 2, sections 2.1.3 to 2.1.5 (ModR/M and SIB, displacement and immediate bytes).
use Rattle.std.specs.Prelude.{ℕ, ◌≡◌, ◌-◌, ◌^◌, ◌<◌, ◌≤◌, ◌⊎◌, List, ◌++◌, length}
use Rattle.std.specs.Int.{w32, to_le_bytes}
use Rattle.ia32_decode.specs.Decoding.{Spells}
use Rattle.ia32_decode.specs.declared.instruction.Instr.{Instr}
use Rattle.ia32_decode.specs.declared.instruction.Operand.{Operand}
use Rattle.ia32_decode.specs.declared.instruction.Operand.TheVariants as operands

-- a number that needs a field of four bytes: it is no two bytes, and no byte with its sign
pub record IsWide (n : ℕ) : Type 0 where
  pub low : 2 ^ 16 ≤ n
  pub high : n < 2 ^ 32 - 2 ^ 7

-- ---- immediates

-- the last four bytes are the immediate: with those of another number in their place they spell the instruction with that immediate
pub record HasImmediate (bytes : List ℕ) (v : Instr) : Type 0 where
  pub front : List ℕ
  pub parts : bytes ≡ front ++ to_le_bytes w32 v.imm
  pub each : (n : ℕ) → n < 2 ^ 32 → Spells (front ++ to_le_bytes w32 n) (record v { imm = n })

abbrev pub WideImmediates : Type 0
WideImmediates = (bytes : List ℕ) (v : Instr) → Spells bytes v → IsWide v.imm → HasImmediate bytes v

-- ---- offsets

-- an operand in memory at an offset
abbrev pub IsAtOffset : Operand → ℕ → Type 0
IsAtOffset (operands.Place base index scale offset) n = offset ≡ n
IsAtOffset operands.Absent n = ⊥
IsAtOffset (operands.Reg r) n = ⊥
IsAtOffset operands.Imm n = ⊥

-- an operand, at another offset where it is in memory
abbrev pub with_offset : ℕ → Operand → Operand
with_offset n (operands.Place base index scale offset) = operands.Place base index scale n
with_offset n operands.Absent = operands.Absent
with_offset n (operands.Reg r) = operands.Reg r
with_offset n operands.Imm = operands.Imm

abbrev pub at_offset : ℕ → Instr → Instr
at_offset n v = record v { first = with_offset n v.first; second = with_offset n v.second }

-- four bytes are the offset, and behind them is the immediate, of two bytes at most or of four
pub record HasOffset (bytes : List ℕ) (v : Instr) (offset : ℕ) : Type 0 where
  pub front : List ℕ
  pub back : List ℕ
  pub parts : bytes ≡ front ++ (to_le_bytes w32 offset ++ back)
  pub each : (n : ℕ) → n < 2 ^ 32 → Spells (front ++ (to_le_bytes w32 n ++ back)) (at_offset n v)
  pub behind : (length back ≤ 2) ⊎ (back ≡ to_le_bytes w32 v.imm)
  pub wide : IsWide v.imm → back ≡ to_le_bytes w32 v.imm

abbrev pub WideOffsets : Type 0
WideOffsets = (bytes : List ℕ) (v : Instr) (offset : ℕ) → Spells bytes v → IsAtOffset v.first offset ⊎ IsAtOffset v.second offset → IsWide offset → HasOffset bytes v offset
