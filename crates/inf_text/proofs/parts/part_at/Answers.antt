use Rattle.std.proofs.Common.{◌≡◌, ℕ, suc, ◌+◌, ◌<◌, ◌≤◌, Bool, true, eqb, ltb, List, [], ◌∷◌, length, take, drop, Some, None, sym, ap, ◌∙◌, subst, inl, inr, arith, refl}
use Rattle.std.specs.List.{slice_split, onto_first, position, position_or_len}
use Rattle.std.proofs.lemmas.Bool.{cases_Bool}
use Rattle.std.proofs.lemmas.Bool.Decides.{nat_tests}
use Rattle.std.proofs.lemmas.Option.{cond_some}
use Rattle.std.proofs.lemmas.List.Splits.{slice_split_first, slice_split-cons_no}
use Rattle.std.proofs.lemmas.Slice.{between_to_end}
use Rattle.inf_text.proofs.parts.part_at.Goals as goal

whole : (p : ℕ → Bool) (bs : List ℕ) → length bs ≤ position_or_len p bs → slice_split p bs ≡ bs ∷ []
whole p [] h = refl
whole p (b ∷ bs) h = elim (cases_Bool (p b)) [
  | inl on ↦ let k : suc (length bs) ≤ 0 = rw on at h in absurd (omega arith)
  | inr off ↦ let k : suc (length bs) ≤ 1 + position_or_len p bs = rw off at h in slice_split-cons_no p b bs off ∙ ap (onto_first b) (whole p bs (omega arith))
]

-- the parts, where the first that passes stands at i
cut : (p : ℕ → Bool) (bs : List ℕ) (i : ℕ) → position p bs ≡ Some i → slice_split p bs ≡ take i bs ∷ slice_split p (drop (i + 1) bs)
cut p bs i h =
    let k = cond_some (ltb (position_or_len p bs) (length bs)) (position_or_len p bs) i h in
    let at : position_or_len p bs ≡ i = k.1 in
    let within : ltb (position_or_len p bs) (length bs) ≡ true = k.0 in
    let lt : position_or_len p bs < length bs = grind (arith, nat_tests) in
    subst (λ (n : ℕ). slice_split p bs ≡ take n bs ∷ slice_split p (drop (n + 1) bs)) at (slice_split_first p bs 0 lt)

uncut : (p : ℕ → Bool) (bs : List ℕ) → position p bs ≡ None → slice_split p bs ≡ bs ∷ []
uncut p bs h = elim (cases_Bool (ltb (position_or_len p bs) (length bs))) [
  | inl on ↦ let k : Some (position_or_len p bs) ≡ None = rw on at h in absurd (cc)
  | inr off ↦ let le : length bs ≤ position_or_len p bs = grind (arith, nat_tests) in whole p bs le
]

pub returns-in-Some-clause-cases : goal.returns-in-Some-clause-cases
returns-in-Some-clause-cases c =
    let is_mark = λ (b : ℕ). eqb b c.args.mark in
    cut is_mark c.args.text.now c.in-Some.place (sym c.in-Some.ensures)
    ∙ ap (λ (t : List ℕ). take c.in-Some.place c.args.text.now ∷ slice_split is_mark t) (sym (between_to_end c.args.text.now (c.in-Some.place + 1) (length c.args.text.now) (omega arith)))

pub returns-in-None-clause-cases : goal.returns-in-None-clause-cases
returns-in-None-clause-cases c = uncut (λ b. eqb b c.args.mark) c.args.text.now (sym c.in-None.ensures)
