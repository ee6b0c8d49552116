-- The test for decimal numbers, and what is answered of one.
use Rattle.std.proofs.Common.{◌≡◌, ℕ, ◌+◌, ◌-◌, ◌^◌, ◌<◌, ◌≤◌, Bool, true, false, not, cond, ltb, leb, eqb, List, [], ◌∷◌, length, min, Option, Some, None, refl, sym, ap, ◌∙◌, inl, inr, ◌⊎◌, arith}
use Rattle.std.specs.Prelude.{◌&&◌, ◌||◌, slice_index}
use Rattle.std.specs.Option.{MatchOption}
use Rattle.std.specs.List.{list_all}
use Rattle.std.specs.Char.{is_digit, digit_value}
use Rattle.std.specs.Str.Parse.{AllDigits}
use Rattle.std.proofs.lemmas.Bool.{cases_Bool, and_parts, ltb-true, lt-ltb, eqb-true, eq-eqb}
use Rattle.nd_base.specs.Words.{IsDecimal, decimal_value}
use Rattle.driver_script.specs.Forms.{is_decimal, decimal_read}

digits_pass : (w : List ℕ) → AllDigits 10 w → list_all (λ c. is_digit c 10) w ≡ true
digits_pass [] h = refl
digits_pass (c ∷ cs) h = rw (lt-ltb (digit_value c) 10 h.0) (digits_pass cs h.1)

digits_passed : (w : List ℕ) → list_all (λ c. is_digit c 10) w ≡ true → AllDigits 10 w
digits_passed [] h = tt
digits_passed (c ∷ cs) h = let p = and_parts (is_digit c 10) (list_all (λ d. is_digit d 10) cs) h in (ltb-true (digit_value c) 10 p.0, digits_passed cs p.1)

lead_passes : (w : List ℕ) → (slice_index w 0 ≡ 48 → length w ≡ 1) → (not (eqb (slice_index w 0) 48) || eqb (length w) 1) ≡ true
lead_passes w h = elim (cases_Bool (eqb (slice_index w 0) 48)) [
  | inl on ↦ rw (on, eq-eqb (length w) 1 (h (eqb-true (slice_index w 0) 48 on))) refl
  | inr off ↦ rw off refl
]

lead_passed : (w : List ℕ) → (not (eqb (slice_index w 0) 48) || eqb (length w) 1) ≡ true → slice_index w 0 ≡ 48 → length w ≡ 1
lead_passed w h e = eqb-true (length w) 1 (rw (eq-eqb (slice_index w 0) 48 e) at h)

pub decimal_passes : (w : List ℕ) → IsDecimal w → is_decimal w ≡ true
unfolding is_decimal
decimal_passes w d = rw (lt-ltb 0 (length w) d.numeral.0, digits_pass w d.numeral.1, lead_passes w d.leading) refl

pub decimal_passed : (w : List ℕ) → is_decimal w ≡ true → IsDecimal w
unfolding is_decimal
decimal_passed w h =
    let p = and_parts (ltb 0 (length w) && list_all (λ c. is_digit c 10) w) (not (eqb (slice_index w 0) 48) || eqb (length w) 1) h in
    let q = and_parts (ltb 0 (length w)) (list_all (λ c. is_digit c 10) w) p.0 in
    record { numeral = (ltb-true 0 (length w) q.0, digits_passed w q.1); leading = lead_passed w p.1 }

pub read_decimal : (w : List ℕ) → IsDecimal w → decimal_read w ≡ Some (decimal_value w)
unfolding decimal_read
read_decimal w d = rw (decimal_passes w d) refl

pub read_none : (w : List ℕ) → (IsDecimal w → ⊥) → decimal_read w ≡ None
unfolding decimal_read
read_none w none = elim (cases_Bool (is_decimal w)) [
  | inl on ↦ absurd (none (decimal_passed w on))
  | inr off ↦ rw off refl
]

pub decimal_told : (w : List ℕ) (n : ℕ) → decimal_read w ≡ Some n → IsDecimal w × (n ≡ decimal_value w)
unfolding decimal_read
decimal_told w n h = elim (cases_Bool (is_decimal w)) [
  | inl on ↦ let e : Some (decimal_value w) ≡ Some n = rw on at h in (decimal_passed w on, cc)
  | inr off ↦ let e : None ≡ Some n = rw off at h in absurd cc
]
