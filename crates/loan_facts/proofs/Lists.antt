-- Loans that are away, and the descriptors that they lend, where a row of the loans changes or one is put behind them.
use Rattle.std.proofs.Common.{◌≡◌, ◌≢◌, ◌⊎◌, inl, inr, ℕ, zero, suc, ◌+◌, ◌<◌, Bool, true, false, cond, ◌&&◌, ◌||◌, ◌==◌, List, [], ◌∷◌, ◌++◌, map, length, slice_index_or, refl, sym, ap, ◌∙◌, subst, arith}
use Rattle.std.proofs.lemmas.List.{length-append}
use Rattle.nd_base.specs.declared.numbers.BindingNo.{BindingNo}
use Rattle.packet_pool.specs.LiveSet.{LiveSet, descriptor_at}
use Rattle.packet_pool.specs.LiveMoves.{Lend, Unlend, after}
use Rattle.owner_machine.specs.declared.rows.Loan.{Loan}
use Rattle.owner_machine.specs.declared.rows.LoanPlace.{LoanPlace}
use Rattle.owner_machine.specs.declared.rows.LoanPlace.TheVariants.{Out, Due, Home}
use Rattle.owner_machine.specs.declared.rows.Next.{Next as OwnerNext}
use Rattle.owner_machine.specs.declared.rows.Next.TheVariants.{GoingHome, Tail}
use Rattle.owner_machine.specs.State.{Owner, at, change}
use Rattle.owner_machine.specs.Contexts.{serialized}
use Rattle.owner_machine.specs.Handlers.{is_none}
use Rattle.owner_machine.specs.Loans.{holds, is_away, is_due, is_lent, may_go_home, gone_home, returned, lent_place}
use Rattle.loan_facts.specs.Lent.{IsOnLoan, MayBeLent}
use Rattle.loan_facts.proofs.Pools.{KeepsLoans, on_loan_as, never_both, marked_other, lent_now}

abbrev pub is_away_row : Loan → Bool
is_away_row l = is_away l.place

abbrev pub away_at : List Loan → ℕ → Bool
away_at rows j = at is_away_row rows j

abbrev pub lent_at : List ℕ → ℕ → ℕ
lent_at lent j = slice_index_or lent j 0

-- what holds of all loans: those that are away lend what is on loan, each something else
pub record AreLent (rows : List Loan) (lent : List ℕ) (p : LiveSet) : Type 0 where
  pub long : length lent ≡ length rows
  pub lives : (j : ℕ) → away_at rows j ≡ true → IsOnLoan p (lent_at lent j)
  pub apart : (i j : ℕ) → away_at rows i ≡ true → away_at rows j ≡ true → lent_at lent i ≡ lent_at lent j → i ≡ j

-- ---- pools that keep what is on loan; fewer loans that are away

pub over : (rows : List Loan) (lent : List ℕ) (p q : LiveSet) → KeepsLoans p q → AreLent rows lent p → AreLent rows lent q
over rows lent p q keeps h = record { long = h.long; lives = λ j is. keeps.each _ (h.lives j is); apart = h.apart }

fewer : (rows more : List Loan) (lent : List ℕ) (p : LiveSet) → length rows ≡ length more → ((j : ℕ) → away_at rows j ≡ true → away_at more j ≡ true) → AreLent more lent p → AreLent rows lent p
fewer rows more lent p long was h = record {
  long = h.long ∙ sym long;
  lives = λ j is. h.lives j (was j is);
  apart = λ i j one other same. h.apart i j (was i one) (was j other) same;
}

length_changed : {A : Type 0} (f : A → A) (rows : List A) (k : ℕ) → length (change f rows k) ≡ length rows
length_changed f [] k = refl
length_changed f (row ∷ rows) zero = refl
length_changed f (row ∷ rows) (suc k) = ap suc (length_changed f rows k)

-- ---- a holder gives its part back

held_away : (b : ℕ) (l : Loan) → holds b l ≡ true → is_away l.place ≡ true
held_away b l h = by_place l.place (at (λ h. h) l.holders b) h
  where
    by_place : (place : LoanPlace) (held : Bool) → (is_lent place && held) ≡ true → is_away place ≡ true
    by_place Out held h = refl
    by_place Due held h = refl
    by_place Home held h = absurd (cc)

part_back : (b : ℕ) (rows : List Loan) (k j : ℕ) → at (holds b) rows k ≡ true → away_at (change (returned b) rows k) j ≡ true → away_at rows j ≡ true
part_back b [] k j holds_it is = is
part_back b (row ∷ rows) zero zero holds_it is = held_away b row holds_it
part_back b (row ∷ rows) zero (suc j) holds_it is = is
part_back b (row ∷ rows) (suc k) zero holds_it is = is
part_back b (row ∷ rows) (suc k) (suc j) holds_it is = part_back b rows k j holds_it is

pub returned_lent : (b : ℕ) (rows : List Loan) (k : ℕ) (lent : List ℕ) (p : LiveSet) → at (holds b) rows k ≡ true → AreLent rows lent p → AreLent (change (returned b) rows k) lent p
returned_lent b rows k lent p holds_it h = fewer (change (returned b) rows k) rows lent p (length_changed (returned b) rows k) (λ j is. part_back b rows k j holds_it is) h

-- ---- a loan goes home

home_away : (n : OwnerNext) (failed : Bool) (l : Loan) → may_go_home n failed l ≡ true → is_away l.place ≡ true
home_away (GoingHome adapter) false l h = by_place l.place (l.adapter.0 == adapter.0) h
  where
    by_place : (place : LoanPlace) (own : Bool) → (is_due place && own) ≡ true → is_away place ≡ true
    by_place Out own h = refl
    by_place Due own h = refl
    by_place Home own h = absurd (cc)
home_away (Tail adapter) true l h = by_place (is_away l.place) (l.adapter.0 == adapter.0) h
  where
    by_place : (away own : Bool) → (away && own) ≡ true → away ≡ true
    by_place true own h = refl
    by_place false own h = absurd (cc)
home_away (GoingHome adapter) true l h = absurd (cc)
home_away (Tail adapter) false l h = absurd (cc)
home_away _ failed l h = absurd (cc)

pub home_at : (n : OwnerNext) (failed : Bool) (rows : List Loan) (k : ℕ) → at (may_go_home n failed) rows k ≡ true → away_at rows k ≡ true
home_at n failed [] k h = absurd (cc)
home_at n failed (row ∷ rows) zero h = home_away n failed row h
home_at n failed (row ∷ rows) (suc k) h = home_at n failed rows k h

home_leaves : (rows : List Loan) (k j : ℕ) → away_at (change gone_home rows k) j ≡ true → (away_at rows j ≡ true) × (j ≢ k)
home_leaves [] k j is = absurd (cc)
home_leaves (row ∷ rows) zero zero is = absurd (cc)
home_leaves (row ∷ rows) zero (suc j) is = (is, λ same. omega (arith, same))
home_leaves (row ∷ rows) (suc k) zero is = (is, λ same. omega (arith, same))
home_leaves (row ∷ rows) (suc k) (suc j) is = let rest = home_leaves rows k j is in (rest.0, λ same. rest.1 (omega (arith, same)))

pub back_lent : (rows : List Loan) (k : ℕ) (lent : List ℕ) (p : LiveSet) → away_at rows k ≡ true → AreLent rows lent p → AreLent (change gone_home rows k) lent (after p (Unlend (lent_at lent k)))
back_lent rows k lent p away h = record {
  long = h.long ∙ sym (length_changed gone_home rows k);
  lives = λ j is.
      let was = home_leaves rows k j is in
      on_loan_as p (after p (Unlend (lent_at lent k))) (lent_at lent j) (marked_other p (lent_at lent k) false (lent_at lent j) (λ same. was.1 (h.apart j k was.0 away same))) (h.lives j was.0);
  apart = λ i j one other same. h.apart i j (home_leaves rows k i one).0 (home_leaves rows k j other).0 same;
}

-- ---- a loan is made

row_behind : (rows : List Loan) (row : Loan) (j : ℕ) → away_at (rows ++ row ∷ []) j ≡ true → ((away_at rows j ≡ true) × (j < length rows)) ⊎ ((j ≡ length rows) × (is_away row.place ≡ true))
row_behind [] row zero is = inr (refl, is)
row_behind [] row (suc j) is = absurd (cc)
row_behind (first ∷ rows) row zero is = inl (is, omega arith)
row_behind (first ∷ rows) row (suc j) is = by_rest (row_behind rows row j is)
  where
    by_rest : ((away_at rows j ≡ true) × (j < length rows)) ⊎ ((j ≡ length rows) × (is_away row.place ≡ true))
        → ((away_at rows j ≡ true) × (suc j < suc (length rows))) ⊎ ((suc j ≡ suc (length rows)) × (is_away row.place ≡ true))
    by_rest (inl h) = inl (h.0, let less = h.1 in omega (arith, less))
    by_rest (inr h) = inr (ap suc h.0, h.1)

lent_before : (lent : List ℕ) (d j : ℕ) → j < length lent → lent_at (lent ++ d ∷ []) j ≡ lent_at lent j
lent_before [] d j less = absurd (omega (arith, less))
lent_before (e ∷ lent) d zero less = refl
lent_before (e ∷ lent) d (suc j) less = lent_before lent d j (omega (arith, less))

lent_last : (lent : List ℕ) (d : ℕ) → lent_at (lent ++ d ∷ []) (length lent) ≡ d
lent_last [] d = refl
lent_last (e ∷ lent) d = lent_last lent d

-- the packet goes out where the loan is away
abbrev pub lent_pools : LiveSet → (home : Bool) → ℕ → LiveSet
lent_pools p home d = cond home p (after p (Lend d))

pub lent_other : (p : LiveSet) (home : Bool) (d e : ℕ) → e ≢ d → descriptor_at (lent_pools p home d) e ≡ descriptor_at p e
lent_other p true d e ne = refl
lent_other p false d e ne = marked_other p d true e ne

made_lent : (p : LiveSet) (home : Bool) (d : ℕ) → home ≡ false → MayBeLent p d → IsOnLoan (lent_pools p home d) d
made_lent p true d is may = absurd (cc)
made_lent p false d is may = lent_now p d may.out

module _ (rows : List Loan) (row : Loan) (lent : List ℕ) (p : LiveSet) (home : Bool) (d : ℕ) (goes : is_away row.place ≡ true → home ≡ false) (may : MayBeLent p d) (h : AreLent rows lent p) where
  before : (j : ℕ) → j < length rows → lent_at (lent ++ d ∷ []) j ≡ lent_at lent j
  before j less = lent_before lent d j (let long = h.long in omega (arith, less, long))

  last : (j : ℕ) → j ≡ length rows → lent_at (lent ++ d ∷ []) j ≡ d
  last j is = ap (lent_at (lent ++ d ∷ [])) (is ∙ sym h.long) ∙ lent_last lent d

  abbrev Behind : ℕ → Type 0
  Behind j = ((away_at rows j ≡ true) × (j < length rows)) ⊎ ((j ≡ length rows) × (is_away row.place ≡ true))

  lives_behind : (j : ℕ) → Behind j → IsOnLoan (lent_pools p home d) (lent_at (lent ++ d ∷ []) j)
  lives_behind j (inl old) =
      let on = h.lives j old.0 in
      let there = on_loan_as p (lent_pools p home d) (lent_at lent j) (lent_other p home d (lent_at lent j) (never_both p (lent_at lent j) d on may)) on in
      subst (IsOnLoan (lent_pools p home d)) (sym (before j old.1)) there
  lives_behind j (inr new) = subst (IsOnLoan (lent_pools p home d)) (sym (last j new.0)) (made_lent p home d (goes new.1) may)

  apart_behind : (i j : ℕ) → Behind i → Behind j → lent_at (lent ++ d ∷ []) i ≡ lent_at (lent ++ d ∷ []) j → i ≡ j
  apart_behind i j (inl one) (inl other) same = h.apart i j one.0 other.0 (sym (before i one.1) ∙ same ∙ before j other.1)
  apart_behind i j (inl one) (inr other) same = absurd (never_both p (lent_at lent i) d (h.lives i one.0) may (sym (before i one.1) ∙ same ∙ last j other.0))
  apart_behind i j (inr one) (inl other) same = absurd (never_both p (lent_at lent j) d (h.lives j other.0) may (sym (before j other.1) ∙ sym same ∙ last i one.0))
  apart_behind i j (inr one) (inr other) same = one.0 ∙ sym other.0

  pub indicated_lent : AreLent (rows ++ row ∷ []) (lent ++ d ∷ []) (lent_pools p home d)
  indicated_lent = record {
    long = length-append lent (d ∷ []) ∙ ap (λ (n : ℕ). n + 1) h.long ∙ sym (length-append rows (row ∷ []));
    lives = λ j is. lives_behind j (row_behind rows row j is);
    apart = λ i j one other same. apart_behind i j (row_behind rows row i one) (row_behind rows row j other) same;
  }

-- where the owner machine has the loan away, the run lends its packet
pub goes_out : (o : Owner) (a : ℕ) (holders : List BindingNo) (copied : Bool) → is_away (lent_place o a holders copied) ≡ true → (copied || (is_none (map (λ b. b.0) holders) && serialized o a)) ≡ false
goes_out o a holders true h = absurd (cc)
goes_out o a [] false h = by_kind (serialized o a) h
  where
    by_kind : (serial : Bool) → is_away (cond serial Home Due) ≡ true → serial ≡ false
    by_kind true h = absurd (cc)
    by_kind false h = refl
goes_out o a (b ∷ holders) false h = refl
