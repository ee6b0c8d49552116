-- Each loan: what is away comes back once.
use Rattle.std.proofs.Common.{◌≡◌, ℕ, zero, suc, ◌+◌, ◌≤◌, ◌<◌, Bool, true, false, cond, not, ◌&&◌, ◌==◌, List, [], ◌∷◌, ◌++◌, length, None, refl, sym, ap, ◌∙◌, arith, length-append}
use Rattle.std.specs.Prelude.{nat_lt, slice_set}
use Rattle.std.proofs.lemmas.Bool.Decides.{nat_tests}
use Rattle.call_log.specs.declared.entry.Entry.{Entry}
use Rattle.call_log.specs.declared.entry.Entry.TheVariants.{Indicate, Return, Back}
use Rattle.owner_machine.specs.declared.rows.Loan.{Loan}
use Rattle.owner_machine.specs.declared.rows.LoanPlace.{LoanPlace}
use Rattle.owner_machine.specs.declared.rows.LoanPlace.TheVariants.{Out, Due, Home}
use Rattle.owner_machine.specs.declared.rows.Next.{Next}
use Rattle.owner_machine.specs.declared.rows.Next.TheVariants.{Tail, GoingHome}
use Rattle.owner_machine.specs.State.{Owner, at, change}
use Rattle.owner_machine.specs.Loans.{away, is_away, is_lent, is_due, holds, has_holder, nobody, marks, lent, returned, gone_home, may_go_home}
use Rattle.owner_machine.specs.Contexts.{serialized}
use Rattle.owner_machine.specs.Machine.{rule_against, after}
use Rattle.owner_machine.specs.Legal.{Legal, Ends, Goes, Registers, Breaches}
use Rattle.owner_machine.specs.Laws.{number, comes_back, times}
use Rattle.owner_machine.proofs.Bools.{case_of, and_first}
use Rattle.owner_machine.proofs.Changed.{keeps, ends, grows, weaker, unchanged}
use Rattle.owner_machine.proofs.NumberLaw.{length-change}

abbrev pub is_away_row : Loan → Bool
is_away_row l = is_away l.place

due_away : (place : LoanPlace) → is_due place ≡ true → is_away place ≡ true
due_away Due h = refl
due_away Out h = refl
due_away Home h = h

pub lent_away : (place : LoanPlace) → is_lent place ≡ true → is_away place ≡ true
lent_away Out h = refl
lent_away Due h = refl
lent_away Home h = h

pub left_away : (b : Bool) → is_away (cond b Out Due) ≡ true
left_away true = refl
left_away false = refl

pub goes_away : (next : Next) (failed : Bool) (l : Loan) → may_go_home next failed l ≡ true → is_away l.place ≡ true
goes_away (GoingHome a) false l h = due_away l.place (and_first _ _ h)
goes_away (Tail a) true l h = and_first _ _ h
goes_away _ _ l h = absurd (cc)

-- what is away, or is still to be drawn
abbrev pub to_come : List Loan → ℕ → ℕ
to_come rows j = number (at is_away_row rows j) + number (not (nat_lt j (length rows)))

drawn : (rows : List Loan) (new : Loan) (j k : ℕ) → j == length rows ≡ true → to_come (rows ++ new ∷ []) k ≤ to_come rows k
drawn rows new j k h =
    let more = grows is_away_row rows new k in
    let long = ap (λ (n : ℕ). number (not (nat_lt k n))) (length-append rows (new ∷ [])) in
    omega (arith, more, long, numbers (is_away_row new) (length rows) k)
  where
    numbers : (b : Bool) (n k : ℕ) → number ((n == k) && b) + number (not (nat_lt k (n + 1))) ≤ number (not (nat_lt k n))
    numbers true n k = grind (arith, nat_tests)
    numbers false n k = grind (arith, nat_tests)

return_keeps : (rows : List Loan) (b j k : ℕ) → at (holds b) rows j ≡ true → at is_away_row (change (returned b) rows j) k ≡ at is_away_row rows k
return_keeps rows b j k h = keeps is_away_row (holds b) (returned b) rows j k h (λ row is. left_away _ ∙ sym (lent_away row.place (and_first _ _ is)))

back_ends : (o : Owner) (failed : Bool) (j k : ℕ) → at (may_go_home o.next failed) o.loans j ≡ true → number (j == k) + number (at is_away_row (change gone_home o.loans j) k) ≡ number (at is_away_row o.loans k)
back_ends o failed j k h = ends is_away_row gone_home o.loans j k (weaker (may_go_home o.next failed) is_away_row o.loans j (goes_away o.next failed) h) (λ row. refl)

same_to_come : (rows news : List Loan) (k : ℕ) (b : Bool) → length news ≡ length rows → number b + number (at is_away_row news k) ≡ number (at is_away_row rows k) → number b + to_come news k ≤ to_come rows k
same_to_come rows news k b long same = let e = ap (λ (n : ℕ). number (not (nat_lt k n))) long in omega (arith, same, e)

loan_step : (o : Owner) (e : Entry) (k : ℕ) → rule_against o e ≡ None → number (comes_back k e) + to_come (after o e).loans k ≤ to_come o.loans k
loan_step o (Indicate adapter loan bytes holders copied) k h = let more = drawn o.loans (lent o adapter holders copied) loan.0 k (and_first _ _ (case_of o (Indicate adapter loan bytes holders copied) h)) in omega (arith, more)
loan_step o (Return driver loan) k h = same_to_come o.loans (change (returned driver.0) o.loans loan.0) k false (length-change (returned driver.0) o.loans loan.0) (unchanged _ _ (return_keeps o.loans driver.0 loan.0 k (case_of o (Return driver loan) h)) ∙ plus_zero (number (at is_away_row o.loans k)))
  where
    plus_zero : (n : ℕ) → n + 0 ≡ n
    plus_zero n = omega arith
loan_step o (Back loan failed) k h = same_to_come o.loans (change gone_home o.loans loan.0) k (loan.0 == k) (length-change gone_home o.loans loan.0) (back_ends o failed loan.0 k (case_of o (Back loan failed) h))
loan_step o _ k h = omega arith

pub loans_come : (o n : Owner) (log : List Entry) (k : ℕ) → Legal o log n → times (comes_back k) log + to_come n.loans k ≤ to_come o.loans k
unfolding times
loans_come o n log k (Ends m) = omega arith
loans_come o n log k (Goes m l e rest h more) = let one = loan_step o e k h in let all = loans_come (after o e) n rest k more in omega (arith, one, all)
loans_come o n log k (Registers m l rest c p more) = loans_come _ n log k more
loans_come o n log k (Breaches m l c eax rest h more) = let all = loans_come _ n rest k more in omega (arith, all)

-- ---- a loan that was drawn

grown_same : (rows : List Loan) (new : Loan) (j k : ℕ) → j == length rows ≡ true → k < length rows → number (at is_away_row (rows ++ new ∷ []) k) ≡ number (at is_away_row rows k)
grown_same rows new j k h less =
    let more = grows is_away_row rows new k in
    let other : (length rows == k) ≡ false = grind arith in
    let none = ap (λ (b : Bool). number (b && is_away_row new)) other in
    omega (arith, more, none)

kept_step : (o : Owner) (e : Entry) (k : ℕ) → rule_against o e ≡ None → k < length o.loans → number (comes_back k e) + number (away (after o e) k) ≡ number (away o k)
kept_step o (Indicate adapter loan bytes holders copied) k h less = let same = grown_same o.loans (lent o adapter holders copied) loan.0 k (and_first _ _ (case_of o (Indicate adapter loan bytes holders copied) h)) less in omega (arith, same)
kept_step o (Return driver loan) k h less = let same = ap number (return_keeps o.loans driver.0 loan.0 k (case_of o (Return driver loan) h)) in omega (arith, same)
kept_step o (Back loan failed) k h less = back_ends o failed loan.0 k (case_of o (Back loan failed) h)
kept_step o _ k h less = omega arith

longer_step : (o : Owner) (e : Entry) → length o.loans ≤ length (after o e).loans
longer_step o (Indicate adapter loan bytes holders copied) = let long = length-append o.loans (lent o adapter holders copied ∷ []) in omega (arith, long)
longer_step o (Return driver loan) = let same = length-change (returned driver.0) o.loans loan.0 in omega (arith, same)
longer_step o (Back loan failed) = let same = length-change gone_home o.loans loan.0 in omega (arith, same)
longer_step o _ = omega arith

pub loans_kept : (o n : Owner) (log : List Entry) (k : ℕ) → Legal o log n → k < length o.loans → times (comes_back k) log + number (away n k) ≡ number (away o k)
unfolding times
loans_kept o n log k (Ends m) less = omega arith
loans_kept o n log k (Goes m l e rest h more) less = let one = kept_step o e k h less in let long = longer_step o e in let all = loans_kept (after o e) n rest k more (omega (arith, less, long)) in omega (arith, one, all)
loans_kept o n log k (Registers m l rest c p more) less = loans_kept _ n log k more less
loans_kept o n log k (Breaches m l c eax rest h more) less = let all = loans_kept _ n rest k more less in omega (arith, all)

pub away_drawn : (rows : List Loan) (j : ℕ) → at is_away_row rows j ≡ true → j < length rows
away_drawn [] j h = absurd (cc)
away_drawn (row ∷ rows) zero h = omega arith
away_drawn (row ∷ rows) (suc j) h = let more = away_drawn rows j h in omega (arith, more)

-- ---- a loan that is due has no holder

abbrev pub is_held_due : Loan → Bool
is_held_due l = is_due l.place && has_holder l.holders

number_none : (b : Bool) → number b ≡ 0 → b ≡ false
number_none true h = absurd (omega (arith, h))
number_none false h = refl

stays_false : (test : Loan → Bool) (f : Loan → Loan) (rows : List Loan) (j k : ℕ) → ((row : Loan) → test (f row) ≡ false) → at test rows k ≡ false → at test (change f rows j) k ≡ false
stays_false test f [] j k w h = h
stays_false test f (row ∷ rows) zero zero w h = w row
stays_false test f (row ∷ rows) zero (suc k) w h = h
stays_false test f (row ∷ rows) (suc j) zero w h = h
stays_false test f (row ∷ rows) (suc j) (suc k) w h = stays_false test f rows j k w h

returned_unheld : (held : Bool) → is_due (cond held Out Due) && held ≡ false
returned_unheld true = refl
returned_unheld false = refl

new_unheld : (copied serial : Bool) (holders : List Bool) (held : Bool) → has_holder holders ≡ held → is_due (cond copied Home (cond held Out (cond serial Home Due))) && has_holder (cond copied nobody holders) ≡ false
new_unheld true serial holders held same = refl
new_unheld false serial holders true same = refl
new_unheld false true holders false same = refl
new_unheld false false holders false same = same

unheld_step : (o : Owner) (e : Entry) (k : ℕ) → at is_held_due o.loans k ≡ false → at is_held_due (after o e).loans k ≡ false
unheld_step o (Indicate adapter loan bytes holders copied) k h =
    let more = grows is_held_due o.loans (lent o adapter holders copied) k in
    let was = ap number h in
    let new : is_held_due (lent o adapter holders copied) ≡ false = new_unheld copied (serialized o adapter.0) (marks holders) (has_holder (marks holders)) refl in
    let none = ap (λ (b : Bool). number ((length o.loans == k) && b)) new in
    let nothing = ap number (and_no (length o.loans == k)) in
    number_none _ (omega (arith, more, was, none, nothing))
  where
    and_no : (b : Bool) → b && false ≡ false
    and_no true = refl
    and_no false = refl
unheld_step o (Return driver loan) k h = stays_false is_held_due (returned driver.0) o.loans loan.0 k (λ row. returned_unheld (has_holder (slice_set row.holders driver.0 false))) h
unheld_step o (Back loan failed) k h = stays_false is_held_due gone_home o.loans loan.0 k (λ row. refl) h
unheld_step o _ k h = h

pub unheld_kept : (o n : Owner) (log : List Entry) (k : ℕ) → Legal o log n → at is_held_due o.loans k ≡ false → at is_held_due n.loans k ≡ false
unheld_kept o n log k (Ends m) h = h
unheld_kept o n log k (Goes m l e rest r more) h = unheld_kept (after o e) n rest k more (unheld_step o e k h)
unheld_kept o n log k (Registers m l rest c p more) h = unheld_kept _ n log k more h
unheld_kept o n log k (Breaches m l c eax rest r more) h = unheld_kept _ n rest k more h

pub due_unheld : (rows : List Loan) (j : ℕ) → at is_held_due rows j ≡ false → at (λ l. is_due l.place) rows j ≡ true → at (λ l. has_holder l.holders) rows j ≡ false
due_unheld [] j h is = refl
due_unheld (row ∷ rows) zero h is = sym (ap (λ (b : Bool). b && has_holder row.holders) is) ∙ h
due_unheld (row ∷ rows) (suc j) h is = due_unheld rows j h is

pub deserialized_out : (serial held : Bool) → serial ≡ false → is_away (cond held Out (cond serial Home Due)) ≡ true
deserialized_out true held h = absurd (cc)
deserialized_out false true h = refl
deserialized_out false false h = refl
