-- The first loan that is due, as the loan that goes home.
use Rattle.std.proofs.Common.{◌≡◌, ℕ, suc, ◌+◌, ◌<◌, ◌≤◌, Bool, true, false, cond, not, List, [], ◌∷◌, length, Some, None, refl, sym, ap, ◌∙◌, arith}
use Rattle.std.specs.Prelude.{is_some, filter, position, count_by, sum_by, nat_lt, slice_index_or, ◌==◌}
use Rattle.std.specs.List.{position_or_len}
use Rattle.std.proofs.lemmas.List.Sums.{sum_by-append}
use Rattle.std.proofs.lemmas.Bool.{eq-eqb, ltb-false, ltb-true}
use Rattle.owner_machine.specs.State.{in_front, numbers_from}
use Rattle.owner_machine.specs.Loans.{due_of}
use Rattle.legal_run.specs.State.{State}
use Rattle.legal_run.specs.Owed.{first}
use Rattle.legal_run.specs.Enters.{loan_named}

-- ---- the place of the first row that passes

record IsFound (p len j : ℕ) : Type 0 where
  pub less : p < len
  pub same : p ≡ j

found : (p len j : ℕ) → cond (nat_lt p len) (Some p) None ≡ Some j → IsFound p len j
found p len j e = by_test (nat_lt p len) refl e
  where
    by_test : (t : Bool) → nat_lt p len ≡ t → cond t (Some p) None ≡ Some j → IsFound p len j
    by_test true is e = record { less = ltb-true p len is; same = cc }
    by_test false is e = absurd (cc)

missed : (p len : ℕ) → cond (nat_lt p len) (Some p) None ≡ None → len ≤ p
missed p len e = by_test (nat_lt p len) refl e
  where
    by_test : (t : Bool) → nat_lt p len ≡ t → cond t (Some p) None ≡ None → len ≤ p
    by_test true is e = absurd (cc)
    by_test false is e = ltb-false p len is

-- ---- the first number that is picked

first_in : (pick : ℕ → Bool) (n : ℕ) (ns : List ℕ) → pick n ≡ true → is_some (first (filter pick (n ∷ ns))) ≡ true
first_in pick n ns is = rw is refl

picked_from : {A : Type 0} (test : A → Bool) (rows : List A) (n : ℕ) (pick : ℕ → Bool) → position_or_len test rows < length rows → pick (n + position_or_len test rows) ≡ true
    → is_some (first (filter pick (numbers_from n test rows))) ≡ true
picked_from test [] n pick less is = absurd (omega arith)
picked_from test (row ∷ rows) n pick less is = by_test (test row) (position_or_len test rows) (numbers_from (suc n) test rows) less is (picked_from test rows (suc n) pick)
  where
    by_test : (t : Bool) (rest : ℕ) (ns : List ℕ) → cond (not t) (1 + rest) 0 < suc (length rows) → pick (n + cond (not t) (1 + rest) 0) ≡ true
        → (rest < length rows → pick (suc n + rest) ≡ true → is_some (first (filter pick ns)) ≡ true) → is_some (first (filter pick (in_front t n ns))) ≡ true
    by_test true rest ns less is more = first_in pick n ns (ap pick (omega arith) ∙ is)
    by_test false rest ns less is more = more (omega (arith, less)) (ap pick (omega arith) ∙ is)

-- ---- no row passes

count_cons : {A : Type 0} (test : A → Bool) (row : A) (rows : List A) → count_by test (row ∷ rows) ≡ cond (test row) 1 0 + count_by test rows
count_cons test row rows = let parts = sum_by-append (λ r. cond (test r) 1 0) (row ∷ []) rows in omega (arith, parts)

none_counted : {A : Type 0} (test : A → Bool) (rows : List A) → length rows ≤ position_or_len test rows → count_by test rows ≡ 0
none_counted test [] more = refl
none_counted test (row ∷ rows) more = by_test (test row) (position_or_len test rows) more (none_counted test rows) (count_cons test row rows)
  where
    by_test : (t : Bool) (rest : ℕ) → suc (length rows) ≤ cond (not t) (1 + rest) 0 → (length rows ≤ rest → count_by test rows ≡ 0)
        → count_by test (row ∷ rows) ≡ cond t 1 0 + count_by test rows → count_by test (row ∷ rows) ≡ 0
    by_test true rest more none is = absurd (omega (arith, more))
    by_test false rest more none is = let left = none (omega (arith, more)) in omega (arith, is, left)

-- ---- loans

pub none_due : (s : State) (a : ℕ) → position (due_of a) s.owner.loans ≡ None → count_by (due_of a) s.owner.loans ≡ 0
none_due s a e = none_counted (due_of a) s.owner.loans (missed (position_or_len (due_of a) s.owner.loans) (length s.owner.loans) e)

pub home_named : (s : State) (a j d : ℕ) → position (due_of a) s.owner.loans ≡ Some j → d ≡ slice_index_or s.lent j 0 → is_some (loan_named s a (0 ∷ d ∷ [])) ≡ true
home_named s a j d e is =
    let at_j = found (position_or_len (due_of a) s.owner.loans) (length s.owner.loans) j e in
    let place : 0 + position_or_len (due_of a) s.owner.loans ≡ j = let same = at_j.same in omega (arith, same) in
    picked_from (due_of a) s.owner.loans 0 (λ k. slice_index_or s.lent k 0 == d) at_j.less (eq-eqb _ d (ap (λ k. slice_index_or s.lent k 0) place ∙ sym is))
