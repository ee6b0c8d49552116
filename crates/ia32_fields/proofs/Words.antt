-- Four bytes that spell a number, and the codes that spell a wide number by four bytes alone.
use Rattle.std.proofs.Common.{◌≡◌, ℕ, zero, suc, ◌-◌, ◌+◌, ◌^◌, ◌<◌, ◌≤◌, ◌⊎◌, inl, inr, Bool, true, false, List, [], ◌∷◌, length, get_or, refl, sym, ◌∙◌, subst, ⊎_elim, ltb, arith}
use Rattle.std.proofs.lemmas.Bool.{false≢true, cases_Bool, cond-true, cond-false, ltb-false}
use Rattle.std.proofs.lemmas.Nat.{le_bytes_4}
use Rattle.std.specs.Int.{w32, to_le_bytes}
use Rattle.codes.specs.Codes.{Code}
use Rattle.codes.specs.Numbers.{octet, little_endian_4}
use Rattle.codes.specs.NumberLaws.{octet_fits, little_endian_2_fits, little_endian_4_spells, little_endian_2_at_most}
use Rattle.ia32_decode.specs.Operands.{sign_extended, signed_byte, displacement, immediate}
use Rattle.ia32_decode.specs.declared.forms.Immediate.{Immediate}
use Rattle.ia32_decode.specs.declared.forms.Immediate.TheVariants as immediates
use Rattle.ia32_fields.specs.Fields.{IsWide}

four_low : (a b c d : ℕ) → a < 256 → b < 256 → c < 256 → d < 256 → (i : ℕ) → get_or (a ∷ b ∷ c ∷ d ∷ []) i 0 < 256
four_low a b c d p q r s zero = p
four_low a b c d p q r s (suc zero) = q
four_low a b c d p q r s (suc (suc zero)) = r
four_low a b c d p q r s (suc (suc (suc zero))) = s
four_low a b c d p q r s (suc (suc (suc (suc i)))) = omega arith

-- the bytes that spell a number are its own
pub little_endian_4_is : (bytes : List ℕ) (n : ℕ) → little_endian_4.spells bytes n → bytes ≡ to_le_bytes w32 n
unfolding little_endian_4 octet
little_endian_4_is bytes n h =
    let a = h.1 in
    let b = h.4.1 in
    let c = h.4.4.1 in
    let d = h.4.4.4.1 in
    let whole : bytes ≡ a ∷ b ∷ c ∷ d ∷ [] = rw (h.5, h.3.2, h.4.5, h.4.3.2, h.4.4.5, h.4.4.3.2, h.4.4.4.5, h.4.4.4.3.2, h.4.4.4.4.0) refl in
    whole ∙ sym (le_bytes_4 (a ∷ b ∷ c ∷ d ∷ []) n refl (four_low a b c d h.3.0 h.4.3.0 h.4.4.3.0 h.4.4.4.3.0) h.4.4.4.4.1)

-- a wide number has four bytes, and any other number may have them
pub record IsWord (c : Code ℕ) (bytes : List ℕ) (n : ℕ) : Type 0 where
  pub is : bytes ≡ to_le_bytes w32 n
  pub each : (m : ℕ) → m < 2 ^ 32 → c.spells (to_le_bytes w32 m) m

pub record HasWord (c : Code ℕ) : Type 0 where
  pub word : (bytes : List ℕ) (n : ℕ) → c.spells bytes n → IsWide n → IsWord c bytes n

pub little_endian_4_word : HasWord little_endian_4
little_endian_4_word = record { word = λ bytes n h wide. record { is = little_endian_4_is bytes n h; each = little_endian_4_spells } }

sign_extended-narrow : (b : ℕ) → b < 2 ^ 8 → IsWide (sign_extended b) → ⊥
sign_extended-narrow b low wide = elim (cases_Bool (ltb b (2 ^ 7))) [
  | inl e ↦ let l : 2 ^ 16 ≤ b = subst (λ n. 2 ^ 16 ≤ n) (cond-true (ltb b (2 ^ 7)) b (b + (2 ^ 32 - 2 ^ 8)) e) wide.low in omega arith
  | inr e ↦
      let l : b + (2 ^ 32 - 2 ^ 8) < 2 ^ 32 - 2 ^ 7 = subst (λ n. n < 2 ^ 32 - 2 ^ 7) (cond-false (ltb b (2 ^ 7)) b (b + (2 ^ 32 - 2 ^ 8)) e) wide.high in
      let g : 2 ^ 7 ≤ b = ltb-false b (2 ^ 7) e in
      omega arith
]

signed_byte-narrow : (bytes : List ℕ) (n : ℕ) → signed_byte.spells bytes n → IsWide n → ⊥
unfolding signed_byte
signed_byte-narrow bytes n h wide = sign_extended-narrow h.1 (octet_fits h.0 h.1 h.3) (subst IsWide h.4.1 wide)

pub displacement_word : (mode : ℕ) → HasWord (displacement mode)
unfolding displacement
displacement_word mode = record {
  word = λ bytes n h wide. ⊎_elim
      (λ s. absurd (let e : n ≡ 0 = s.1.1 in let l = wide.low in omega arith))
      (λ s. ⊎_elim
      (λ t. absurd (signed_byte-narrow bytes n t.1 wide))
      (λ t. record { is = little_endian_4_is bytes n t.1; each = λ m low. inr (s.0, inr (t.0, little_endian_4_spells m low)) })
      s.1)
      h;
}

pub immediate_word : (kind : Immediate) (short : Bool) → HasWord (immediate kind short)
unfolding immediate
immediate_word immediates.Absent short = record { word = λ bytes n h wide. absurd (let e : n ≡ 0 = h.1 in let l = wide.low in omega arith) }
immediate_word immediates.One short = record { word = λ bytes n h wide. absurd (let e : n ≡ 1 = h.1 in let l = wide.low in omega arith) }
immediate_word immediates.Byte short = record { word = λ bytes n h wide. absurd (let s = octet_fits bytes n h in let l = wide.low in omega arith) }
immediate_word immediates.SignedByte short = record { word = λ bytes n h wide. absurd (signed_byte-narrow bytes n h wide) }
immediate_word immediates.Word short = record { word = λ bytes n h wide. absurd (let s = little_endian_2_fits bytes n h in let l = wide.low in omega arith) }
immediate_word immediates.OperandSize true = record {
  word = λ bytes n h wide. absurd (⊎_elim (λ s. let f = little_endian_2_fits bytes n s.1 in let l = wide.low in omega arith) (λ s. false≢true (sym s.0)) h);
}
immediate_word immediates.OperandSize false = record {
  word = λ bytes n h wide. ⊎_elim (λ s. absurd (false≢true s.0)) (λ s. record { is = little_endian_4_is bytes n s.1; each = λ m low. inr (refl, little_endian_4_spells m low) }) h;
}
immediate_word immediates.Doubleword short = little_endian_4_word

-- ---- how long an immediate is

octet_long : (bytes : List ℕ) (n : ℕ) → octet.spells bytes n → length bytes ≤ 2
unfolding octet
octet_long bytes n h = rw h.2 (omega arith)

signed_byte_long : (bytes : List ℕ) (n : ℕ) → signed_byte.spells bytes n → length bytes ≤ 2
unfolding signed_byte octet
signed_byte_long bytes n h = rw (h.5, h.3.2, h.4.0) (omega arith)

-- two bytes at most, or its own four
pub immediate_long : (kind : Immediate) (short : Bool) (bytes : List ℕ) (n : ℕ) → (immediate kind short).spells bytes n → (length bytes ≤ 2) ⊎ (bytes ≡ to_le_bytes w32 n)
unfolding immediate
immediate_long immediates.Absent short bytes n h = inl (rw h.0 (omega arith))
immediate_long immediates.One short bytes n h = inl (rw h.0 (omega arith))
immediate_long immediates.Byte short bytes n h = inl (octet_long bytes n h)
immediate_long immediates.SignedByte short bytes n h = inl (signed_byte_long bytes n h)
immediate_long immediates.Word short bytes n h = inl (little_endian_2_at_most.bound bytes n h)
immediate_long immediates.OperandSize true bytes n h = ⊎_elim (λ s. inl (little_endian_2_at_most.bound bytes n s.1)) (λ s. absurd (false≢true (sym s.0))) h
immediate_long immediates.OperandSize false bytes n h = ⊎_elim (λ s. absurd (false≢true s.0)) (λ s. inr (little_endian_4_is bytes n s.1)) h
immediate_long immediates.Doubleword short bytes n h = inr (little_endian_4_is bytes n h)
