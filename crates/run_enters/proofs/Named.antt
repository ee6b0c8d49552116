-- The loan that goes home: the first that is due and lent the descriptor that is told.
use Rattle.std.proofs.Common.{◌≡◌, ℕ, zero, suc, ◌+◌, ◌<◌, ◌≤◌, Bool, true, false, ◌&&◌, cond, not, List, [], ◌∷◌, Some, None, refl, sym, ap, ◌∙◌, length, arith}
use Rattle.std.specs.Prelude.{filter, is_some, position, nat_lt, slice_index_or, ◌==◌}
use Rattle.std.specs.List.{position_or_len}
use Rattle.std.proofs.lemmas.Bool.{ltb-false}
use Rattle.owner_machine.specs.State.{at, in_front, numbers_from}
use Rattle.owner_machine.specs.Loans.{due_of}
use Rattle.legal_run.specs.State.{State}
use Rattle.legal_run.specs.Owed.{first}
use Rattle.legal_run.specs.Enters.{loan_named}

-- a row of that number passes, and is picked
abbrev pub passes : {A : Type 0} → (A → Bool) → List A → (ℕ → Bool) → (n k : ℕ) → Bool
passes test rows pick n k = at test rows k && pick (n + k)

-- the first one
pub first_picked : {A : Type 0} (test : A → Bool) (rows : List A) (pick : ℕ → Bool) (n j : ℕ) → passes test rows pick n j ≡ true → ((k : ℕ) → k < j → passes test rows pick n k ≡ false)
    → first (filter pick (numbers_from n test rows)) ≡ Some (n + j)
first_picked test [] pick n j is none = absurd (cc)
first_picked test (row ∷ rows) pick n zero is none = by_row (test row) (pick n) (ap (λ m. test row && pick m) (omega arith) ∙ is) refl
  where
    by_row : (t p : Bool) → (t && p) ≡ true → pick n ≡ p → first (filter pick (in_front t n (numbers_from (suc n) test rows))) ≡ Some (n + 0)
    by_row true true is at_n = rw at_n (ap Some (omega arith))
    by_row true false is at_n = absurd (cc)
    by_row false p is at_n = absurd (cc)
first_picked test (row ∷ rows) pick n (suc j) is none =
    let rest : first (filter pick (numbers_from (suc n) test rows)) ≡ Some (suc n + j) =
    first_picked test rows pick (suc n) j (ap (λ m. at test rows j && pick m) (omega arith) ∙ is) (λ k less. ap (λ m. at test rows k && pick m) (omega arith) ∙ none (suc k) (omega (arith, less))) in
    by_row (test row) (pick n) (ap (λ m. test row && pick m) (omega arith) ∙ none zero (omega arith)) refl (rest ∙ ap Some (omega arith))
  where
    by_row : (t p : Bool) → (t && p) ≡ false → pick n ≡ p → first (filter pick (numbers_from (suc n) test rows)) ≡ Some (n + suc j)
        → first (filter pick (in_front t n (numbers_from (suc n) test rows))) ≡ Some (n + suc j)
    by_row true true misses at_n rest = absurd (cc)
    by_row true false misses at_n rest = rw at_n rest
    by_row false p misses at_n rest = rest

-- none
pub none_picked : {A : Type 0} (test : A → Bool) (rows : List A) (pick : ℕ → Bool) (n : ℕ) → ((k : ℕ) → k < length rows → passes test rows pick n k ≡ false) → first (filter pick (numbers_from n test rows)) ≡ None
none_picked test [] pick n none = refl
none_picked test (row ∷ rows) pick n none =
    let rest : first (filter pick (numbers_from (suc n) test rows)) ≡ None =
    none_picked test rows pick (suc n) (λ k less. ap (λ m. at test rows k && pick m) (omega arith) ∙ none (suc k) (omega (arith, less))) in
    by_row (test row) (pick n) (ap (λ m. test row && pick m) (omega arith) ∙ none zero (omega arith)) refl rest
  where
    by_row : (t p : Bool) → (t && p) ≡ false → pick n ≡ p → first (filter pick (numbers_from (suc n) test rows)) ≡ None → first (filter pick (in_front t n (numbers_from (suc n) test rows))) ≡ None
    by_row true true misses at_n rest = absurd (cc)
    by_row true false misses at_n rest = rw at_n rest
    by_row false p misses at_n rest = rest

-- ---- in front of the first row that passes none does

before_first : {A : Type 0} (test : A → Bool) (rows : List A) (k : ℕ) → k < position_or_len test rows → at test rows k ≡ false
before_first test [] k less = refl
before_first test (row ∷ rows) k less = by_test (test row) k refl less (before_first test rows)
  where
    by_test : (t : Bool) (k : ℕ) → test row ≡ t → k < cond (not t) (1 + position_or_len test rows) 0 → ((i : ℕ) → i < position_or_len test rows → at test rows i ≡ false) → at test (row ∷ rows) k ≡ false
    by_test true k is less rest = absurd (omega (arith, less))
    by_test false zero is less rest = is
    by_test false (suc k) is less rest = rest k (omega (arith, less))

found : (p len j : ℕ) → cond (nat_lt p len) (Some p) None ≡ Some j → p ≡ j
found p len j e = by_test (nat_lt p len) e
  where
    by_test : (t : Bool) → cond t (Some p) None ≡ Some j → p ≡ j
    by_test true e = cc
    by_test false e = absurd (cc)

missed : (p len : ℕ) → cond (nat_lt p len) (Some p) None ≡ None → len ≤ p
missed p len e = by_test (nat_lt p len) refl e
  where
    by_test : (t : Bool) → nat_lt p len ≡ t → cond t (Some p) None ≡ None → len ≤ p
    by_test true is e = absurd (cc)
    by_test false is e = ltb-false p len is

fails : (a b : Bool) → a ≡ false → (a && b) ≡ false
fails false b is = refl
fails true b is = absurd (cc)

pub none_before : {A : Type 0} (test : A → Bool) (rows : List A) (pick : ℕ → Bool) (j : ℕ) → position test rows ≡ Some j → (k : ℕ) → k < j → passes test rows pick 0 k ≡ false
none_before test rows pick j is k less =
    let place = found (position_or_len test rows) (length rows) j is in
    fails (at test rows k) (pick (0 + k)) (before_first test rows k (omega (arith, less, place)))

pub none_there : {A : Type 0} (test : A → Bool) (rows : List A) (pick : ℕ → Bool) → position test rows ≡ None → (k : ℕ) → k < length rows → passes test rows pick 0 k ≡ false
none_there test rows pick is k less =
    let place = missed (position_or_len test rows) (length rows) is in
    fails (at test rows k) (pick (0 + k)) (before_first test rows k (omega (arith, less, place)))

-- ---- loans

abbrev pub lent_as : State → ℕ → ℕ → Bool
lent_as s d i = slice_index_or s.lent i 0 == d

pub named : (s : State) (a d j : ℕ) → passes (due_of a) s.owner.loans (lent_as s d) 0 j ≡ true → ((k : ℕ) → k < j → passes (due_of a) s.owner.loans (lent_as s d) 0 k ≡ false) → loan_named s a (0 ∷ d ∷ []) ≡ Some j
named s a d j is none = first_picked (due_of a) s.owner.loans (lent_as s d) 0 j is none ∙ ap Some (omega arith)

pub not_none : (s : State) (a d : ℕ) → is_some (loan_named s a (0 ∷ d ∷ [])) ≡ true → ((k : ℕ) → k < length s.owner.loans → passes (due_of a) s.owner.loans (lent_as s d) 0 k ≡ false) → ⊥
not_none s a d some none =
    let missing : loan_named s a (0 ∷ d ∷ []) ≡ None = none_picked (due_of a) s.owner.loans (lent_as s d) 0 none in
    wrong (ap is_some (sym missing) ∙ some)
  where
    wrong : false ≡ true → ⊥
    wrong is = absurd (cc)

pub is_passing : {A : Type 0} (test : A → Bool) (rows : List A) (pick : ℕ → Bool) (j : ℕ) → at test rows j ≡ true → pick j ≡ true → passes test rows pick 0 j ≡ true
is_passing test rows pick j is also = both (at test rows j) (pick (0 + j)) is (ap pick (omega arith) ∙ also)
  where
    both : (a b : Bool) → a ≡ true → b ≡ true → (a && b) ≡ true
    both true b is also = also
    both false b is also = absurd (cc)

pub within : (k len top j : ℕ) → k < len → top ≡ len → top ≤ j → k < j
within k len top j less same past = omega (arith, less, same, past)
