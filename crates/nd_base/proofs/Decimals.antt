-- The words that are decimal numbers, and their values.
use Rattle.std.proofs.Common.{◌≡◌, ℕ, ◌+◌, ◌-◌, ◌*◌, ◌^◌, Bool, true, false, cond, eqb, List, [], ◌∷◌, min, Option, Some, None, refl, sym, ap, ◌∙◌, inl, inr, arith}
use Rattle.std.specs.Option.{MatchOption}
use Rattle.std.specs.Char.{is_digit, digit_value}
use Rattle.std.specs.Str.Parse.{AllDigits, digits_value_after}
use Rattle.std.proofs.lemmas.Bool.{cases_Bool, eqb-true, eq-eqb, ltb-true, lt-ltb}
use Rattle.nd_base.specs.Words.{IsDecimal, decimal_value, digits_after, may_be_decimal, decimal_of, saturated}

digits_found : (n : ℕ) (cs : List ℕ) → AllDigits 10 cs → digits_after n cs ≡ Some (digits_value_after 10 n cs)
unfolding digits_after
digits_found n [] h = refl
digits_found n (c ∷ cs) h = rw (lt-ltb (digit_value c) 10 h.0) (digits_found (n * 10 + digit_value c) cs h.1)

digits_are : (n v : ℕ) (cs : List ℕ) → digits_after n cs ≡ Some v → AllDigits 10 cs
unfolding digits_after
digits_are n v [] h = tt
digits_are n v (c ∷ cs) h = elim (cases_Bool (is_digit c 10)) [
  | inl on ↦ (ltb-true (digit_value c) 10 on, digits_are (n * 10 + digit_value c) v cs (rw on at h))
  | inr off ↦ let e : None ≡ Some v = rw off at h in absurd cc
]

may_be : (word : List ℕ) → IsDecimal word → may_be_decimal word ≡ true
may_be [] h = let lt = h.numeral.0 in absurd (omega arith)
may_be (c ∷ []) h = elim (cases_Bool (eqb c 48)) [
  | inl on ↦ rw on refl
  | inr off ↦ rw off refl
]
may_be (c ∷ d ∷ cs) h = elim (cases_Bool (eqb c 48)) [
  | inl on ↦ let len = h.leading (eqb-true c 48 on) in absurd (omega arith)
  | inr off ↦ rw off refl
]

pub decimal_found : (word : List ℕ) → IsDecimal word → saturated (decimal_of word) ≡ Some (min (decimal_value word) (2 ^ 64 - 1))
decimal_found word h = ap (λ (b : Bool). saturated (cond b (digits_after 0 word) None)) (may_be word h) ∙ ap saturated (digits_found 0 word h.numeral.1)

saturated_some : (o : Option ℕ) (v : ℕ) → saturated o ≡ Some v → (n : ℕ) × (o ≡ Some n)
saturated_some None v h = absurd cc
saturated_some (Some n) v h = (n, refl)

saturated_digits : (word : List ℕ) (v : ℕ) → saturated (digits_after 0 word) ≡ Some v → AllDigits 10 word
saturated_digits word v h = let p = saturated_some (digits_after 0 word) v h in digits_are 0 p.0 word p.1

begins : (word : List ℕ) → AllDigits 10 word → may_be_decimal word ≡ true → IsDecimal word
begins [] ds h = absurd cc
begins (c ∷ []) ds h = record { numeral = (omega arith, ds); leading = λ e. refl }
begins (c ∷ d ∷ cs) ds h = record { numeral = (omega arith, ds); leading = λ e. let k : false ≡ true = rw (eq-eqb c 48 e) at h in absurd cc }

pub is_decimal : (word : List ℕ) (v : ℕ) → saturated (decimal_of word) ≡ Some v → IsDecimal word
is_decimal word v h = elim (cases_Bool (may_be_decimal word)) [
  | inl on ↦ let k : saturated (digits_after 0 word) ≡ Some v = rw on at h in begins word (saturated_digits word v k) on
  | inr off ↦ let k : None ≡ Some v = rw off at h in absurd cc
]

-- what is answered where the test of the first byte answers this
pub is_found : (o : Option ℕ) (word : List ℕ) (b : Bool) → may_be_decimal word ≡ b → o ≡ saturated (cond b (digits_after 0 word) None) → MatchOption o (¬ IsDecimal word) (λ n. IsDecimal word × (n ≡ min (decimal_value word) (2 ^ 64 - 1)))
is_found None word b may h = λ d. let e = decimal_found word d in let k : saturated (decimal_of word) ≡ None = ap (λ (x : Bool). saturated (cond x (digits_after 0 word) None)) may ∙ sym h in absurd cc
is_found (Some n) word b may h =
    let k : saturated (decimal_of word) ≡ Some n = ap (λ (x : Bool). saturated (cond x (digits_after 0 word) None)) may ∙ sym h in
    let d = is_decimal word n k in
    let e = decimal_found word d in
    (d, cc)
