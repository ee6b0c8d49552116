-- The equation of DIV.
use Rattle.std.proofs.Common.{◌≡◌, ℕ, ◌+◌, ◌*◌, ◌/◌, ◌%◌, ◌<◌, ◌≤◌, ◌⊎◌, inl, inr, None, Some, ⊎_elim, refl, sym, ap, ◌∙◌, arith}
use Rattle.std.proofs.Math.Nat.{le-div_iff_mul-le}
use Rattle.std.proofs.lemmas.Nat.{div-add-mod', mod_below, div_below}
use Rattle.std.proofs.lemmas.Bool.{cases_eq, cases_lt, ne_eqb, lt-leb, le-leb}
use Rattle.ia32_arithmetic.specs.declared.widths.Width.{Width}
use Rattle.ia32_arithmetic.specs.declared.products.Quotient.{Quotient}
use Rattle.ia32_arithmetic.specs.Widths.{size}
use Rattle.ia32_arithmetic.specs.Products.{divided, quotient}
use Rattle.ia32_laws.specs.Numbers.{DivideLaws}

abbrev found : ℕ → ℕ → Quotient
found a b = record { quotient = a / b; remainder = a % b }

by_zero : (w : Width) (a b : ℕ) → b ≡ 0 → divided w a b ≡ None
unfolding divided
by_zero w a b e = rw e refl

by_some : (w : Width) (a b : ℕ) → (b ≡ 0 → ⊥) → divided w a b ≡ quotient w a b
unfolding divided
by_some w a b h = rw (ne_eqb b 0 h) refl

large : (w : Width) (a b : ℕ) → size w ≤ a / b → quotient w a b ≡ None
large w a b h = rw (le-leb (size w) (a / b) h) refl

fitting : (w : Width) (a b : ℕ) → a / b < size w → quotient w a b ≡ Some (found a b)
fitting w a b h = rw (lt-leb (size w) (a / b) h) refl

-- where there is a quotient it is this one, and by what is not 0
record IsQuotient (w : Width) (a b : ℕ) (q : Quotient) : Type 0 where
  some : b ≡ 0 → ⊥
  fits : a / b < size w
  is : found a b ≡ q

is_quotient : (w : Width) (a b : ℕ) (q : Quotient) → divided w a b ≡ Some q → IsQuotient w a b q
is_quotient w a b q e = ⊎_elim
    (λ none. let two : None ≡ Some q = sym (by_zero w a b none) ∙ e in absurd (cc))
    (λ some. ⊎_elim
    (λ less. let two : Some (found a b) ≡ Some q = sym (fitting w a b less) ∙ sym (by_some w a b some) ∙ e in record { some = some; fits = less; is = let one : found a b ≡ q = cc in one })
    (λ more. let two : None ≡ Some q = sym (large w a b more) ∙ sym (by_some w a b some) ∙ e in absurd (cc))
    (cases_lt (a / b) (size w)))
    (cases_eq b 0)

pub divide_laws : DivideLaws
divide_laws = record {
  equation = λ w a b q e. let h = is_quotient w a b q e in ap (λ (r : Quotient). r.quotient * b + r.remainder) (sym h.is) ∙ div-add-mod' a b;
  remainder = λ w a b q e. let h = is_quotient w a b q e in let below = mod_below a b (omega (arith, h.some)) in let same = ap (λ (r : Quotient). r.remainder) h.is in omega arith;
  none = λ w a b e. ⊎_elim inl
      (λ some. ⊎_elim
      (λ less. let two : Some (found a b) ≡ None = sym (fitting w a b less) ∙ sym (by_some w a b some) ∙ e in absurd (cc))
      (λ more. inr (at_least w a b more some))
      (cases_lt (a / b) (size w)))
      (cases_eq b 0);
  some = λ w a b more less. (found a b, by_some w a b (omega arith) ∙ fitting w a b (div_below a b (size w) more less));
}
  where
    at_least : (w : Width) (a b : ℕ) → size w ≤ a / b → (b ≡ 0 → ⊥) → size w * b ≤ a
    at_least w a b more some = (le-div_iff_mul-le (omega arith)).0 more
