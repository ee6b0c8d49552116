-- How many bytes stand behind those of an open offset.
use Rattle.std.proofs.Common.{◌≡◌, ℕ, zero, suc, ◌+◌, ◌-◌, ◌<◌, ◌≤◌, ◌^◌, ◌⊎◌, inl, inr, Bool, true, false, cond, List, [], ◌∷◌, ◌++◌, length, take, drop, refl, sym, ap, ◌∙◌, subst, ⊎_elim, length-append, leb, arith}
use Rattle.std.proofs.Math.Seq.{drop-append-add}
use Rattle.std.specs.Int.{w32, to_le_bytes, from_le_bytes}
use Rattle.std.specs.Str.{bytes_eq}
use Rattle.std.proofs.lemmas.Nat.{from_le_bytes-to_le_bytes_4}
use Rattle.std.proofs.lemmas.Bool.{false≢true, cond-true, le-leb, false_from_ne_true, cases_lt}
use Rattle.std.proofs.lemmas.Slice.Eq.{bytes_eq-Decides}
use Rattle.asm_encode.specs.Templates.{ends_behind, IsPlaced, IsOpenOffset}

-- the four bytes so far behind the front
window : (front rest : List ℕ) (j behind : ℕ) (word : ℕ) (bytes : List ℕ) → bytes ≡ front ++ rest → length rest ≡ j + (behind + 4) → ends_behind bytes word behind ≡ bytes_eq (take 4 (drop j rest)) (to_le_bytes w32 word)
window front rest j behind word bytes parts long =
    let l : length bytes ≡ length front + length rest = ap length parts ∙ length-append front rest in
    let within : behind + 4 ≤ length bytes = omega (arith, l, long) in
    let start : length bytes - (behind + 4) ≡ length front + j = omega (arith, l, long) in
    cond-true (leb (behind + 4) (length bytes)) _ _ (le-leb (behind + 4) (length bytes) within)
    ∙ ap (λ n. bytes_eq (take 4 (drop n bytes)) (to_le_bytes w32 word)) start
    ∙ ap (λ (bs : List ℕ). bytes_eq (take 4 (drop (length front + j) bs)) (to_le_bytes w32 word)) parts
    ∙ ap (λ (bs : List ℕ). bytes_eq (take 4 bs) (to_le_bytes w32 word)) (drop-append-add front rest j)

-- bytes of another number
other_word : (imm word : ℕ) → imm < 2 ^ 32 → word < 2 ^ 32 → (imm ≡ word → ⊥) → bytes_eq (to_le_bytes w32 imm) (to_le_bytes w32 word) ≡ false
other_word imm word p q ne = false_from_ne_true (bytes_eq (to_le_bytes w32 imm) (to_le_bytes w32 word)) (λ e.
    let same : to_le_bytes w32 imm ≡ to_le_bytes w32 word = (bytes_eq-Decides (to_le_bytes w32 imm) (to_le_bytes w32 word)).0 e in
    ne (sym (from_le_bytes-to_le_bytes_4 imm p) ∙ ap (from_le_bytes w32) same ∙ from_le_bytes-to_le_bytes_4 word q))

-- what the tests find with so many bytes behind: the first that holds is at that place
pub record AreFound (bytes : List ℕ) (word behind : ℕ) : Type 0 where
  pub at : behind ≤ 2 → ends_behind bytes word behind ≡ true
  pub before : (k : ℕ) → k < behind → k ≤ 2 → ends_behind bytes word k ≡ false
  pub ends : (behind ≤ 2) ⊎ (behind ≡ 4)

-- a number whose bytes do not overlap themselves
record Pattern (word : ℕ) : Type 0 where
  low : word < 2 ^ 32
  at_0 : (rest : List ℕ) → bytes_eq (take 4 (to_le_bytes w32 word ++ rest)) (to_le_bytes w32 word) ≡ true
  at_1 : (x : ℕ) (rest : List ℕ) → bytes_eq (take 4 (drop 1 (to_le_bytes w32 word ++ x ∷ rest))) (to_le_bytes w32 word) ≡ false
  at_2 : (x y : ℕ) (rest : List ℕ) → bytes_eq (take 4 (drop 2 (to_le_bytes w32 word ++ x ∷ y ∷ rest))) (to_le_bytes w32 word) ≡ false
  word_2 : (imm : ℕ) → bytes_eq (take 4 (drop 2 (to_le_bytes w32 word ++ to_le_bytes w32 imm))) (to_le_bytes w32 word) ≡ false
  word_3 : (imm : ℕ) → bytes_eq (take 4 (drop 3 (to_le_bytes w32 word ++ to_le_bytes w32 imm))) (to_le_bytes w32 word) ≡ false

pattern : (word : ℕ) → IsOpenOffset word → Pattern word
pattern word (inl e) = subst Pattern (sym e) (record { low = omega arith; at_0 = λ rest. refl; at_1 = λ x rest. refl; at_2 = λ x y rest. refl; word_2 = λ imm. refl; word_3 = λ imm. refl })
pattern word (inr e) = subst Pattern (sym e) (record { low = omega arith; at_0 = λ rest. refl; at_1 = λ x rest. refl; at_2 = λ x y rest. refl; word_2 = λ imm. refl; word_3 = λ imm. refl })

below_1 : (P : ℕ → Type 0) → P 0 → (k : ℕ) → k < 1 → P k
below_1 P p zero h = p
below_1 P p (suc k) h = absurd (omega arith)

below_2 : (P : ℕ → Type 0) → P 0 → P 1 → (k : ℕ) → k < 2 → P k
below_2 P p q zero h = p
below_2 P p q (suc zero) h = q
below_2 P p q (suc (suc k)) h = absurd (omega arith)

below_3 : (P : ℕ → Type 0) → P 0 → P 1 → P 2 → (k : ℕ) → k ≤ 2 → P k
below_3 P p q r zero h = p
below_3 P p q r (suc zero) h = q
below_3 P p q r (suc (suc zero)) h = r
below_3 P p q r (suc (suc (suc k))) h = absurd (omega arith)

few : (word : ℕ) → Pattern word → (bytes front back : List ℕ) → bytes ≡ front ++ (to_le_bytes w32 word ++ back) → length back ≤ 2 → AreFound bytes word (length back)
few word p bytes front [] parts l = record {
  at = λ _. window front (to_le_bytes w32 word ++ []) 0 0 word bytes parts refl ∙ p.at_0 [];
  before = λ k q r. absurd (omega arith);
  ends = inl l;
}
few word p bytes front (x ∷ []) parts l = record {
  at = λ _. window front (to_le_bytes w32 word ++ x ∷ []) 0 1 word bytes parts refl ∙ p.at_0 (x ∷ []);
  before = λ k q r. below_1 (λ k. ends_behind bytes word k ≡ false) (window front (to_le_bytes w32 word ++ x ∷ []) 1 0 word bytes parts refl ∙ p.at_1 x []) k q;
  ends = inl l;
}
few word p bytes front (x ∷ y ∷ []) parts l = record {
  at = λ _. window front (to_le_bytes w32 word ++ x ∷ y ∷ []) 0 2 word bytes parts refl ∙ p.at_0 (x ∷ y ∷ []);
  before = λ k q r. below_2 (λ k. ends_behind bytes word k ≡ false)
      (window front (to_le_bytes w32 word ++ x ∷ y ∷ []) 2 0 word bytes parts refl ∙ p.at_2 x y [])
      (window front (to_le_bytes w32 word ++ x ∷ y ∷ []) 1 1 word bytes parts refl ∙ p.at_1 x (y ∷ [])) k q;
  ends = inl l;
}
few word p bytes front (x ∷ y ∷ z ∷ back) parts l = absurd (omega arith)

four : (word : ℕ) → Pattern word → (bytes front : List ℕ) (imm : ℕ) → bytes ≡ front ++ (to_le_bytes w32 word ++ to_le_bytes w32 imm) → imm < 2 ^ 32 → (imm ≡ word → ⊥) → AreFound bytes word 4
four word p bytes front imm parts low other =
    let rest = to_le_bytes w32 word ++ to_le_bytes w32 imm in
    record {
      at = λ l. absurd (omega arith);
      before = λ k q r. below_3 (λ k. ends_behind bytes word k ≡ false)
          (window front rest 4 0 word bytes parts refl ∙ other_word imm word low p.low other)
          (window front rest 3 1 word bytes parts refl ∙ p.word_3 imm)
          (window front rest 2 2 word bytes parts refl ∙ p.word_2 imm) k r;
      ends = inr refl;
    }

pub found : (bytes : List ℕ) (word imm : ℕ) (front back : List ℕ) → IsOpenOffset word → IsPlaced bytes word imm front back → AreFound bytes word (length back)
found bytes word imm front back filler h = ⊎_elim
    (λ short. few word (pattern word filler) bytes front back h.parts short)
    (λ e. subst (AreFound bytes word) (sym (ap length e)) (four word (pattern word filler) bytes front imm (h.parts ∙ ap (λ (back : List ℕ). front ++ (to_le_bytes w32 word ++ back)) e) h.low h.other))
    h.behind

pub found_0 : (bytes : List ℕ) (word n : ℕ) → AreFound bytes word n → ends_behind bytes word 0 ≡ true → 0 ≡ n
found_0 bytes word n f t = ⊎_elim (λ l. absurd (false≢true (sym (f.before 0 l (omega arith)) ∙ t))) (λ l. omega arith) (cases_lt 0 n)

pub found_1 : (bytes : List ℕ) (word n : ℕ) → AreFound bytes word n → ends_behind bytes word 0 ≡ false → ends_behind bytes word 1 ≡ true → 1 ≡ n
found_1 bytes word n f s t = ⊎_elim (λ l. absurd (false≢true (sym (f.before 1 l (omega arith)) ∙ t)))
    (λ l. ⊎_elim
    (λ z. let none : n ≡ 0 = omega arith in absurd (false≢true (sym s ∙ ap (ends_behind bytes word) (sym none) ∙ f.at (omega arith))))
    (λ z. omega arith) (cases_lt n 1)) (cases_lt 1 n)

pub found_2 : (bytes : List ℕ) (word n : ℕ) → AreFound bytes word n → ends_behind bytes word 0 ≡ false → ends_behind bytes word 1 ≡ false → ends_behind bytes word 2 ≡ true → 2 ≡ n
found_2 bytes word n f r s t = ⊎_elim (λ l. absurd (false≢true (sym (f.before 2 l (omega arith)) ∙ t)))
    (λ l. ⊎_elim
    (λ z. absurd (false≢true (sym (below_2 (λ k. ends_behind bytes word k ≡ false) r s n z) ∙ f.at (omega arith))))
    (λ z. omega arith) (cases_lt n 2)) (cases_lt 2 n)

pub found_4 : (bytes : List ℕ) (word n : ℕ) → AreFound bytes word n → ends_behind bytes word 0 ≡ false → ends_behind bytes word 1 ≡ false → ends_behind bytes word 2 ≡ false → 4 ≡ n
found_4 bytes word n f r s t = ⊎_elim
    (λ l. absurd (false≢true (sym (below_3 (λ k. ends_behind bytes word k ≡ false) r s t n l) ∙ f.at l)))
    (λ e. sym e) f.ends
