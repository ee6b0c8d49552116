-- Bytes behind the mark are text where they are whole units, none of them zero and no surrogate without its partner.
use Rattle.std.proofs.Common.{inl, inr, ◌≡◌, ℕ, Bool, true, false, ◌&&◌, ◌||◌, not, eqb, List, [], ◌∷◌, get_or, Option, Some, None, is_some, refl, sym, ap, ◌∙◌, ◌+◌, ◌%◌, length, drop, arith}
use Rattle.std.specs.Prelude.{◌↔◌}
use Rattle.std.specs.List.{list_any}
use Rattle.std.specs.Char.Utf16.{is_high_surrogate, is_low_surrogate, lone_unit_char, utf16_chars, has_unpaired_surrogate}
use Rattle.std.proofs.lemmas.Bool.{cases_Bool, and_parts, and_right, or_parts, or_from, or_left, eqb-true, eq-eqb}
use Rattle.std.proofs.lemmas.Bool.Decides.{nat_tests}
use Rattle.inf_text.specs.Characters.{units, is_bad, one_on, first_bad, has_mark, bad_behind, bad_byte, IsUtf16}

abbrev is_lone : ℕ → Bool
is_lone u = not (is_some (lone_unit_char u))

lone_is : (u : ℕ) → is_lone u ≡ (is_high_surrogate u || is_low_surrogate u)
lone_is u = grind (arith, nat_tests)

high_is : (u : ℕ) → is_high_surrogate u ≡ true → (eqb u 0 ≡ false) × (is_low_surrogate u ≡ false)
high_is u h = (grind (arith, nat_tests), grind (arith, nat_tests))

low_is : (u : ℕ) → is_low_surrogate u ≡ true → (eqb u 0 ≡ false) × (is_high_surrogate u ≡ false)
low_is u h = (grind (arith, nat_tests), grind (arith, nat_tests))

bad_apart : (zero high low next before : Bool) → before ≡ false → (high && next) ≡ false → (zero || ((high && not next) || (low && not before))) ≡ (zero || (high || low))
bad_apart zero true low true before e apart = absurd (cc)
bad_apart zero true low false before e apart = refl
bad_apart zero false true next true e apart = absurd (cc)
bad_apart zero false true next false e apart = refl
bad_apart zero false false next before e apart = refl

mixed : (z a s q : Bool) → ((z || a) || (s || q)) ≡ ((z || s) || (a || q))
mixed true a s q = refl
mixed false true true q = refl
mixed false true false q = refl
mixed false false s q = refl

some_on : (o : Option ℕ) → is_some (one_on o) ≡ is_some o
some_on None = refl
some_on (Some k) = refl

abbrev HasNone : ℕ → List ℕ → Type 0
HasNone before us = is_some (first_bad before us) ≡ (list_any (λ u. eqb u 0) us || has_unpaired_surrogate us)

lone_first : (u : ℕ) (us : List ℕ) → (is_high_surrogate u && is_low_surrogate (get_or us 0 0)) ≡ false → has_unpaired_surrogate (u ∷ us) ≡ (is_lone u || has_unpaired_surrogate us)
unfolding utf16_chars
lone_first u [] apart = refl
lone_first u (v ∷ us) apart = rw apart refl

alone : (u : ℕ) (us : List ℕ) (before : ℕ) → is_high_surrogate before ≡ false → (is_high_surrogate u && is_low_surrogate (get_or us 0 0)) ≡ false → (is_high_surrogate u ≡ false → HasNone u us) → HasNone before (u ∷ us)
unfolding first_bad
alone u us before h apart rest =
    let bad : is_bad before u (get_or us 0 0) ≡ (eqb u 0 || is_lone u) = bad_apart (eqb u 0) (is_high_surrogate u) (is_low_surrogate u) (is_low_surrogate (get_or us 0 0)) (is_high_surrogate before) h apart ∙ ap (λ (b : Bool). eqb u 0 || b) (sym (lone_is u)) in
    let all = ap (λ (b : Bool). (eqb u 0 || list_any (λ w. eqb w 0) us) || b) (lone_first u us apart) ∙ mixed (eqb u 0) (list_any (λ w. eqb w 0) us) (is_lone u) (has_unpaired_surrogate us) in
    elim (cases_Bool (is_bad before u (get_or us 0 0))) [
      | inl on ↦ rw on (sym (all ∙ or_left _ _ (sym bad ∙ on)))
      | inr off ↦
          let no = sym bad ∙ off in
          let high = (or_parts _ _ (sym (lone_is u) ∙ (or_parts _ _ no).1)).0 in
          rw off (some_on (first_bad u us) ∙ rest high ∙ sym (all ∙ ap (λ (b : Bool). b || (list_any (λ w. eqb w 0) us || has_unpaired_surrogate us)) no))
    ]

pair : (u v : ℕ) (us : List ℕ) (before : ℕ) → (is_high_surrogate u && is_low_surrogate v) ≡ true → HasNone v us → HasNone before (u ∷ v ∷ us)
unfolding first_bad utf16_chars
pair u v us before both rest =
    let p = and_parts (is_high_surrogate u) (is_low_surrogate v) both in
    let high = high_is u p.0 in
    let low = low_is v p.1 in
    rw (p.0, p.1, high.0, high.1, low.0, low.1) (some_on (one_on (first_bad v us)) ∙ some_on (first_bad v us) ∙ rest)

no_text : (us : List ℕ) (before : ℕ) → is_high_surrogate before ≡ false → HasNone before us
unfolding first_bad utf16_chars
no_text [] before h = refl
no_text (u ∷ []) before h = alone u [] before h (and_right (is_high_surrogate u) false refl) (λ k. no_text [] u k)
no_text (u ∷ v ∷ us) before h = elim (cases_Bool (is_high_surrogate u && is_low_surrogate v)) [
  | inl both ↦ pair u v us before both (no_text us v (low_is v (and_parts (is_high_surrogate u) (is_low_surrogate v) both).1).1)
  | inr apart ↦ alone u (v ∷ us) before h apart (λ k. no_text (v ∷ us) u k)
]

none_bad : (o : Option ℕ) (bytes : List ℕ) → bad_behind o bytes ≡ None → (o ≡ None) × (length bytes % 2 ≡ 0)
none_bad (Some i) bytes h = absurd (cc)
none_bad None bytes h = elim (cases_Bool (eqb (length bytes % 2) 0)) [
  | inl on ↦ (refl, eqb-true _ _ on)
  | inr off ↦ let k : Some (1 + length bytes) ≡ None = rw off at h in absurd (cc)
]

is_none : (o : Option ℕ) → is_some o ≡ false → o ≡ None
is_none None h = refl
is_none (Some k) h = absurd (cc)

from_none : (bytes : List ℕ) → bad_behind (first_bad 0 (units bytes)) bytes ≡ None → IsUtf16 bytes
from_none bytes h =
    let r = none_bad (first_bad 0 (units bytes)) bytes h in
    let p = or_parts _ _ (sym (no_text (units bytes) 0 refl) ∙ ap (λ (o : Option ℕ). is_some o) r.0) in
    record { whole = r.1; some = p.0; paired = p.1 }

to_none : (bytes : List ℕ) → IsUtf16 bytes → bad_behind (first_bad 0 (units bytes)) bytes ≡ None
to_none bytes is =
    let none = is_none (first_bad 0 (units bytes)) (no_text (units bytes) 0 refl ∙ or_from _ _ is.some is.paired) in
    ap (λ (o : Option ℕ). bad_behind o bytes) none ∙ rw (eq-eqb (length bytes % 2) 0 is.whole) refl

pub utf16_is_text : (bytes : List ℕ) → has_mark bytes ≡ true → (bad_byte bytes ≡ None) ↔ IsUtf16 (drop 2 bytes)
utf16_is_text bytes on =
    let is : bad_byte bytes ≡ bad_behind (first_bad 0 (units (drop 2 bytes))) (drop 2 bytes) = rw on refl in
    (λ h. from_none (drop 2 bytes) (sym is ∙ h), λ h. is ∙ to_none (drop 2 bytes) h)
