-- The bytes of jumps.
use Rattle.std.proofs.Common.{◌≡◌, ℕ, ◌+◌, ◌^◌, ◌<◌, inl, false, List, [], ◌∷◌, refl, sym, subst, append-nil, arith}
use Rattle.std.specs.Int.{w32, to_le_bytes}
use Rattle.codes.specs.NumberLaws.{octet_spells, little_endian_4_spells}
use Rattle.ia32_decode.specs.Decoding.{Spells}
use Rattle.ia32_decode.specs.Operands.{sign_extended, signed_byte, immediate}
use Rattle.ia32_decode.specs.Rows.{built, allows, ending}
use Rattle.ia32_decode.specs.Opcodes.{first_of, second_of, after_first, behind_opcode, extended, body}
use Rattle.ia32_decode.specs.Prefixes.{none}
use Rattle.ia32_decode.specs.declared.instruction.Condition.{Condition}
use Rattle.ia32_decode.specs.declared.instruction.Condition.TheVariants as conditions
use Rattle.ia32_decode.specs.declared.instruction.Op.{Op}
use Rattle.ia32_decode.specs.declared.instruction.Op.TheVariants as ops
use Rattle.ia32_decode.specs.declared.forms.Width.TheVariants as widths
use Rattle.ia32_decode.specs.declared.forms.Addressing.TheVariants as addressings
use Rattle.ia32_decode.specs.declared.forms.Immediate.{Immediate}
use Rattle.ia32_decode.specs.declared.forms.Immediate.TheVariants as immediates
use Rattle.ia32_decode.specs.declared.forms.Source.TheVariants as sources
use Rattle.ia32_decode.specs.declared.rows.Repeats.TheVariants as permitted
use Rattle.ia32_decode.specs.declared.rows.Row.{Row}
use Rattle.ia32_decode.specs.declared.rows.Entry.TheVariants as entries
use Rattle.ia32_fields.specs.Jumps.{jump, bits_of, JumpsAreSpelled}

-- a row of a jump
abbrev row : Op → Immediate → Row
row op kind = record {
  op = op;
  form = record { width = widths.Doubleword; addressing = addressings.Absent; first = sources.Immediate; second = sources.Absent; immediate = kind };
  permits = record { operand_size = false; lock = false; repeat = permitted.Neither };
}

row_spelled : (opcode : ℕ) (op : Op) (kind : Immediate) (bytes : List ℕ) (n : ℕ) → (immediate kind false).spells bytes n → (behind_opcode none opcode (entries.One (row op kind))).spells bytes (jump op n)
unfolding behind_opcode allows ending built
row_spelled opcode op kind bytes n h = inl (refl, (bytes, n, [], h, (refl, refl), sym (append-nil bytes)))

first_spelled : (opcode : ℕ) (op : Op) (kind : Immediate) (bytes : List ℕ) (n : ℕ) → opcode < 2 ^ 8 → first_of opcode ≡ entries.One (row op kind) → (immediate kind false).spells bytes n → Spells (opcode ∷ bytes) (jump op n)
unfolding body
first_spelled opcode op kind bytes n low is h = record {
  prefixes = [];
  rest = opcode ∷ bytes;
  parts = refl;
  each = tt;
  once = tt;
  spelled = (low, subst (λ entry. (after_first none opcode entry).spells bytes (jump op n)) (sym is) (row_spelled opcode op kind bytes n h));
}

escape_is : first_of 0x0F ≡ entries.Escape
unfolding first_of
escape_is = refl

second_spelled : (opcode : ℕ) (op : Op) (kind : Immediate) (bytes : List ℕ) (n : ℕ) → opcode < 2 ^ 8 → second_of opcode ≡ entries.One (row op kind) → (immediate kind false).spells bytes n → Spells (0x0F ∷ opcode ∷ bytes) (jump op n)
unfolding body extended
second_spelled opcode op kind bytes n low is h = record {
  prefixes = [];
  rest = 0x0F ∷ opcode ∷ bytes;
  parts = refl;
  each = tt;
  once = tt;
  spelled = (omega arith, subst (λ entry. (after_first none 0x0F entry).spells (opcode ∷ bytes) (jump op n)) (sym escape_is) (low, subst (λ entry. (behind_opcode none opcode entry).spells bytes (jump op n)) (sym is) (row_spelled opcode op kind bytes n h)));
}

word_spelled : (n : ℕ) → n < 2 ^ 32 → (immediate immediates.Doubleword false).spells (to_le_bytes w32 n) n
unfolding immediate
word_spelled n low = little_endian_4_spells n low

byte_spelled : (b : ℕ) → b < 2 ^ 8 → (immediate immediates.SignedByte false).spells (b ∷ []) (sign_extended b)
unfolding immediate signed_byte
byte_spelled b low = (b ∷ [], b, [], octet_spells b low, (refl, refl), refl)

jcc_is : (condition : Condition) → second_of (0x80 + bits_of condition) ≡ entries.One (row (ops.Jcc condition) immediates.Doubleword)
unfolding second_of
jcc_is conditions.Overflow = refl
jcc_is conditions.NotOverflow = refl
jcc_is conditions.Below = refl
jcc_is conditions.AboveOrEqual = refl
jcc_is conditions.Equal = refl
jcc_is conditions.NotEqual = refl
jcc_is conditions.BelowOrEqual = refl
jcc_is conditions.Above = refl
jcc_is conditions.Sign = refl
jcc_is conditions.NotSign = refl
jcc_is conditions.Parity = refl
jcc_is conditions.NotParity = refl
jcc_is conditions.Less = refl
jcc_is conditions.GreaterOrEqual = refl
jcc_is conditions.LessOrEqual = refl
jcc_is conditions.Greater = refl

bits_low : (condition : Condition) → 0x80 + bits_of condition < 2 ^ 8
bits_low conditions.Overflow = omega arith
bits_low conditions.NotOverflow = omega arith
bits_low conditions.Below = omega arith
bits_low conditions.AboveOrEqual = omega arith
bits_low conditions.Equal = omega arith
bits_low conditions.NotEqual = omega arith
bits_low conditions.BelowOrEqual = omega arith
bits_low conditions.Above = omega arith
bits_low conditions.Sign = omega arith
bits_low conditions.NotSign = omega arith
bits_low conditions.Parity = omega arith
bits_low conditions.NotParity = omega arith
bits_low conditions.Less = omega arith
bits_low conditions.GreaterOrEqual = omega arith
bits_low conditions.LessOrEqual = omega arith
bits_low conditions.Greater = omega arith

pub jumps_spelled : JumpsAreSpelled
unfolding first_of
jumps_spelled = record {
  call = λ n low. first_spelled 0xE8 ops.Call immediates.Doubleword (to_le_bytes w32 n) n (omega arith) refl (word_spelled n low);
  jmp = λ n low. first_spelled 0xE9 ops.Jmp immediates.Doubleword (to_le_bytes w32 n) n (omega arith) refl (word_spelled n low);
  jcc = λ condition n low. second_spelled (0x80 + bits_of condition) (ops.Jcc condition) immediates.Doubleword (to_le_bytes w32 n) n (bits_low condition) (jcc_is condition) (word_spelled n low);
  loopne = λ b low. first_spelled 0xE0 ops.Loopne immediates.SignedByte (b ∷ []) (sign_extended b) (omega arith) refl (byte_spelled b low);
  loope = λ b low. first_spelled 0xE1 ops.Loope immediates.SignedByte (b ∷ []) (sign_extended b) (omega arith) refl (byte_spelled b low);
  loop = λ b low. first_spelled 0xE2 ops.Loop immediates.SignedByte (b ∷ []) (sign_extended b) (omega arith) refl (byte_spelled b low);
  jecxz = λ b low. first_spelled 0xE3 ops.Jecxz immediates.SignedByte (b ∷ []) (sign_extended b) (omega arith) refl (byte_spelled b low);
}
