-- What one row's change does to a test of another.
use Rattle.std.proofs.Common.{◌≡◌, ℕ, zero, suc, ◌+◌, Bool, true, false, cond, ◌&&◌, ◌==◌, List, [], ◌∷◌, ◌++◌, length, refl, sym, ap, ◌∙◌, ◌<◌, ◌≤◌, arith}
use Rattle.std.specs.Prelude.{Option, Some, None}
use Rattle.std.specs.List.{position, position_or_len}
use Rattle.std.specs.Option.{option_map_or}
use Rattle.std.proofs.lemmas.Option.{slice_get-get_or, none-some}
use Rattle.std.proofs.lemmas.Bool.Decides.{nat_tests}
use Rattle.std.specs.Prelude.{nat_lt, not}
use Rattle.std.proofs.lemmas.List.Quantifiers.{position-Some}
use Rattle.std.proofs.lemmas.List.Sums.{sum_by-append}
use Rattle.std.specs.Prelude.{count_by}
use Rattle.owner_machine.specs.State.{at, change, is_number}
use Rattle.owner_machine.specs.Laws.{number}

pub suc_eq : (m n : ℕ) → (suc m == suc n) ≡ (m == n)
suc_eq m n = grind arith

-- a row that passes before and after changes nothing
pub keeps : {A : Type 0} (test other : A → Bool) (f : A → A) (rows : List A) (j k : ℕ) → at other rows j ≡ true → ((row : A) → other row ≡ true → test (f row) ≡ test row) → at test (change f rows j) k ≡ at test rows k
keeps test other f [] j k h w = refl
keeps test other f (row ∷ rows) zero zero h w = w row h
keeps test other f (row ∷ rows) zero (suc k) h w = refl
keeps test other f (row ∷ rows) (suc j) zero h w = refl
keeps test other f (row ∷ rows) (suc j) (suc k) h w = keeps test other f rows j k h w

-- a row that passes no longer counts for one
pub ends : {A : Type 0} (test : A → Bool) (f : A → A) (rows : List A) (j k : ℕ) → at test rows j ≡ true → ((row : A) → test (f row) ≡ false) → number (j == k) + number (at test (change f rows j) k) ≡ number (at test rows k)
ends test f [] j k h w = absurd (cc)
ends test f (row ∷ rows) zero zero h w = ap (λ b. 1 + number b) (w row) ∙ sym (ap number h)
ends test f (row ∷ rows) zero (suc k) h w = let e : (0 == suc k) ≡ false = grind arith in let n = ap number e in omega (arith, n)
ends test f (row ∷ rows) (suc j) zero h w = let e : (suc j == 0) ≡ false = grind arith in let n = ap number e in omega (arith, n)
ends test f (row ∷ rows) (suc j) (suc k) h w = ap (λ b. number b + number (at test (change f rows j) k)) (suc_eq j k) ∙ ends test f rows j k h w

-- a row more counts at its number
pub grows : {A : Type 0} (test : A → Bool) (rows : List A) (new : A) (k : ℕ) → number (at test (rows ++ new ∷ []) k) ≡ number (at test rows k) + number ((length rows == k) && test new)
grows test [] new zero = omega arith
grows test [] new (suc k) = let e : (0 == suc k) ≡ false = grind arith in let n = ap (λ b. number (b && test new)) e in omega (arith, n)
grows test (row ∷ rows) new zero = let e : (suc (length rows) == 0) ≡ false = grind arith in let n = ap (λ b. number (b && test new)) e in omega (arith, n)
grows test (row ∷ rows) new (suc k) = grows test rows new k ∙ ap (λ b. number (at test rows k) + number (b && test new)) (sym (suc_eq (length rows) k))

-- a test that follows from another
pub weaker : {A : Type 0} (p q : A → Bool) (rows : List A) (k : ℕ) → ((row : A) → p row ≡ true → q row ≡ true) → at p rows k ≡ true → at q rows k ≡ true
weaker p q [] k w h = h
weaker p q (row ∷ rows) zero w h = w row h
weaker p q (row ∷ rows) (suc k) w h = weaker p q rows k w h

-- the least row that passes passes
pub passes_at : {A : Type 0} (test : A → Bool) (rows : List A) (none : A) (k : ℕ) → position test rows ≡ Some k → at test rows k ≡ true
passes_at test rows none k found = let found_at = position-Some test rows k none found in ap (λ o. option_map_or test o false) (slice_get-get_or rows k none found_at.0) ∙ found_at.1

pub first_passes : {A : Type 0} (test : A → Bool) (rows : List A) (none : A) (k : ℕ) → is_number (position test rows) k ≡ true → at test rows k ≡ true
first_passes test rows none k h = by_first (position test rows) refl h
  where
    by_first : (o : Option ℕ) → position test rows ≡ o → is_number o k ≡ true → at test rows k ≡ true
    by_first None is h = absurd (cc)
    by_first (Some n) is h = let same : n ≡ k = grind arith in passes_at test rows none k (is ∙ ap (λ (x : ℕ). Some x) same)

-- a number below the length has a row
pub within : {A : Type 0} (rows : List A) (k : ℕ) → k < length rows → at (λ row. true) rows k ≡ true
within [] k less = absurd (omega arith)
within (row ∷ rows) zero less = refl
within (row ∷ rows) (suc k) less = within rows k (omega arith)

-- a count, row by row
pub count_cons : {A : Type 0} (p : A → Bool) (row : A) (rows : List A) → count_by p (row ∷ rows) ≡ number (p row) + count_by p rows
count_cons p row rows = let parts = sum_by-append (λ x. cond (p x) 1 0) (row ∷ []) rows in omega (arith, parts)

-- whatever a change makes of one row, the tests of the others stay
pub at_most : {A : Type 0} (test : A → Bool) (f : A → A) (rows : List A) (j k : ℕ) → number (at test (change f rows j) k) ≤ number (j == k) + number (at test rows k)
at_most test f [] j k = omega arith
at_most test f (row ∷ rows) zero zero = most (test (f row)) (test row)
  where
    most : (a b : Bool) → number a ≤ 1 + number b
    most true b = omega arith
    most false b = omega arith
at_most test f (row ∷ rows) zero (suc k) = omega arith
at_most test f (row ∷ rows) (suc j) zero = omega arith
at_most test f (row ∷ rows) (suc j) (suc k) = let more = at_most test f rows j k in let e = ap number (suc_eq j k) in omega (arith, more, e)

pub unchanged : (a b : Bool) → b ≡ a → number false + number b ≡ number a + number false
unchanged a b h = let n = ap number h in omega (arith, n)

pub no_more : (a b c : Bool) → b ≡ a → number false + number b ≤ number a + number c
no_more a b c h = let n = ap number h in omega (arith, n)

pub count_change : {A : Type 0} (p : A → Bool) (f : A → A) (rows : List A) (k : ℕ) → count_by p (change f rows k) + number (at p rows k) ≡ count_by p rows + number (at p (change f rows k) k)
count_change p f [] k = refl
count_change p f (x ∷ rows) zero = omega (arith, count_cons p x rows, count_cons p (f x) rows)
count_change p f (x ∷ rows) (suc k) = let more = count_change p f rows k in omega (arith, more, count_cons p x rows, count_cons p x (change f rows k))

-- where there is no first row that passes, none passes
cond_some : (t : Bool) (n : ℕ) → cond t (Some n) None ≡ None → t ≡ false
cond_some true n h = absurd (none-some n (sym h))
cond_some false n h = refl

past_first : (p : Bool) (n m : ℕ) → nat_lt (cond (not p) (1 + n) 0) (suc m) ≡ false → (p ≡ false) × (nat_lt n m ≡ false)
past_first true n m h = absurd (zero_below m h)
  where
    zero_below : (m : ℕ) → nat_lt 0 (suc m) ≡ false → ⊥
    zero_below m h = grind (arith, nat_tests)
past_first false n m h = (refl, grind (arith, nat_tests))

none_before : {A : Type 0} (p : A → Bool) (rows : List A) → nat_lt (position_or_len p rows) (length rows) ≡ false → count_by p rows ≡ 0
none_before p [] h = refl
none_before p (x ∷ rows) h =
    let here = past_first (p x) (position_or_len p rows) (length rows) h in
    let more = none_before p rows here.1 in
    let e = ap number here.0 in
    omega (arith, more, e, count_cons p x rows)

pub none_passes : {A : Type 0} (p : A → Bool) (rows : List A) → position p rows ≡ None → count_by p rows ≡ 0
none_passes p rows h = none_before p rows (cond_some (nat_lt (position_or_len p rows) (length rows)) (position_or_len p rows) h)
