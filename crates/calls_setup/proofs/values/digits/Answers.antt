use Rattle.std.proofs.Common.{◌≡◌, ℕ, ◌+◌, ◌*◌, ◌^◌, ◌<◌, ◌≤◌, true, false, eqb, ltb, List, [], ◌∷◌, length, drop, get_or, None, Some, inl, inr, refl, sym, ap, ◌∙◌, arith, drop-cons, add-one}
use Rattle.std.proofs.Math.ListN.{drop_of_length-le}
use Rattle.std.proofs.Math.Nat.{mul-le-mul_left}
use Rattle.std.proofs.lemmas.Bool.{cases_Bool, and_right}
use Rattle.std.proofs.lemmas.Bool.Decides.{nat_tests}
use Rattle.std.specs.List.{list_all}
use Rattle.std.specs.Char.{digit_value, is_digit}
use Rattle.std.specs.Str.Parse.{digits_value_after, digits_value}
use Rattle.inf_file.specs.Numbers.{is_numeral, digits}
use Rattle.calls_setup.proofs.values.digits.Goals as goal

here : (w : List ℕ) (i : ℕ) → i < length w → drop i w ≡ get_or w i 0 ∷ drop (i + 1) w
here w i lt = rw (add-one, drop-cons w i 0) refl

-- more digits make no number less
grows : (base n : ℕ) (cs : List ℕ) → 1 ≤ base → n ≤ digits_value_after base n cs
grows base n [] one = omega arith
grows base n (c ∷ cs) one = let more = grows base (n * base + digit_value c) cs one in omega (arith, more, mul-le-mul_left n one)

next_value : (base v n i : ℕ) (w : List ℕ) → i < length w → n ≡ v * base + digit_value (get_or w i 0) → digits_value_after base v (drop i w) ≡ digits_value base w → digits_value_after base n (drop (i + 1) w) ≡ digits_value base w
next_value base v n i w lt is h = ap (λ (m : ℕ). digits_value_after base m (drop (i + 1) w)) is ∙ ap (digits_value_after base v) (sym (here w i lt)) ∙ h

all_digits : (base v : ℕ) (w : List ℕ) → eqb (length w) 0 ≡ false → list_all (λ c. is_digit c base) w ≡ true → digits_value base w ≡ v → v < 2 ^ 32 → Some v ≡ digits base w
unfolding digits
all_digits base v w some all is lt = let on : ltb v (2 ^ 32) ≡ true = search (arith, nat_tests) in rw (some, all, is, on) refl

no_numeral : (base : ℕ) (w : List ℕ) → list_all (λ c. is_digit c base) w ≡ false → None ≡ digits base w
unfolding digits
no_numeral base w h = let off : is_numeral base w ≡ false = and_right _ _ h in rw off refl

too_big : (base : ℕ) (w : List ℕ) → 2 ^ 32 ≤ digits_value base w → None ≡ digits base w
unfolding digits
too_big base w h = let off : ltb (digits_value base w) (2 ^ 32) ≡ false = search (arith, nat_tests) in rw (and_right (is_numeral base w) _ off) refl

digit_on : (base i : ℕ) (w : List ℕ) → i < length w → digit_value (get_or w i 0) < base → list_all (λ c. is_digit c base) (drop i w) ≡ list_all (λ c. is_digit c base) (drop (i + 1) w)
digit_on base i w lt on = let is : ltb (digit_value (get_or w i 0)) base ≡ true = search (arith, nat_tests) in ap (list_all (λ c. is_digit c base)) (here w i lt) ∙ rw is refl

no_digit : (base i : ℕ) (w : List ℕ) → i < length w → (digit_value (get_or w i 0) < base → ⊥) → list_all (λ c. is_digit c base) (drop i w) ≡ false
no_digit base i w lt h = elim (cases_Bool (ltb (digit_value (get_or w i 0)) base)) [
  | inl on ↦ let less : digit_value (get_or w i 0) < base = grind (arith, nat_tests) in absurd (h less)
  | inr off ↦ ap (list_all (λ c. is_digit c base)) (here w i lt) ∙ rw off refl
]

pub returns-in_default : goal.returns-in_default
returns-in_default c = let lt : c.loop-unit.unit-index < length c.args.text.now = omega arith in no_numeral c.args.base c.args.text.now (sym c.loop-unit.invariant.numeral ∙ no_digit c.args.base c.loop-unit.unit-index c.args.text.now lt c.in_default.ensures)

pub returns-then-value-ge4294967296 : goal.returns-then-value-ge4294967296
returns-then-value-ge4294967296 c =
    let w = c.args.text.now in
    let lt : c.loop-unit.unit-index < length w = omega arith in
    let d = c.in-Some.ensures in
    let e = next_value c.args.base c.loop-unit.value (c.loop-unit.value * c.from.result + c.from-in-loop-unit.result) c.loop-unit.unit-index w lt (cc (d.1)) c.loop-unit.invariant.so_far in
    too_big c.args.base w (omega (arith, e, grows c.args.base (c.loop-unit.value * c.from.result + c.from-in-loop-unit.result) (drop (c.loop-unit.unit-index + 1) w) (omega arith)))

pub loop-unit-preserved : goal.loop-unit-preserved
loop-unit-preserved c =
    let w = c.args.text.now in
    let lt : c.loop-unit.unit-index < length w = omega arith in
    let d = c.in-Some.ensures in
    record {
      small = omega arith;
      numeral = sym (digit_on c.args.base c.loop-unit.unit-index w lt d.0) ∙ c.loop-unit.invariant.numeral;
      so_far = next_value c.args.base c.loop-unit.value (c.loop-unit.value * c.from.result + c.from-in-loop-unit.result) c.loop-unit.unit-index w lt (cc (d.1)) c.loop-unit.invariant.so_far;
    }

pub returns : goal.returns
returns c =
    let w = c.args.text.now in
    let none : drop c.loop-unit.unit-index w ≡ [] = drop_of_length-le w (omega arith) in
    all_digits c.args.base c.loop-unit.value w (sym c.if-is_empty.ensures) (sym c.loop-unit.invariant.numeral ∙ ap (list_all (λ n. is_digit n c.args.base)) none)
    (sym c.loop-unit.invariant.so_far ∙ ap (digits_value_after c.args.base c.loop-unit.value) none) c.loop-unit.invariant.small
