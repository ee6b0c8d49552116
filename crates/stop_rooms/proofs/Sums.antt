-- Counts and sums over rows, behind a change of one row, and behind one row more.
use Rattle.std.proofs.Common.{◌≡◌, ℕ, zero, suc, ◌+◌, ◌≤◌, ◌<◌, Bool, true, false, not, ◌==◌, cond, List, [], ◌∷◌, ◌++◌, Some, refl, sym, ap, ◌∙◌, subst, arith}
use Rattle.std.specs.Prelude.{count_by, slice_get, sum_by}
use Rattle.std.proofs.lemmas.List.Sums.{sum_by-cons, sum_by_push}
use Rattle.owner_machine.specs.declared.rows.Adapter.{Adapter}
use Rattle.owner_machine.specs.State.{Owner, change, in_front, is_stopped, numbers_from}
use Rattle.owner_machine.specs.Handlers.{outstanding}
use Rattle.owner_machine.specs.Laws.{number}
use Rattle.owner_book.specs.Stopping.{stop_room}

-- ---- counts

-- where a row passes behind a change it has passed before
pub count_changed : {A : Type 0} (test : A → Bool) (f : A → A) (xs : List A) (k : ℕ) → ((x : A) → slice_get xs k ≡ Some x → test (f x) ≡ true → test x ≡ true) → count_by test (change f xs k) ≤ count_by test xs
count_changed test f [] k same = omega arith
count_changed test f (x ∷ xs) zero same =
    let one = sum_by-cons (λ y. cond (test y) 1 0) (f x) xs in
    let two = sum_by-cons (λ y. cond (test y) 1 0) x xs in
    let less = by (test (f x)) (test x) (same x refl) in
    omega (arith, one, two, less)
  where
    by : (a b : Bool) → (a ≡ true → b ≡ true) → cond a 1 0 ≤ cond b 1 0
    by true true h = omega arith
    by true false h = let e : false ≡ true = h refl in absurd (cc)
    by false true h = omega arith
    by false false h = omega arith
count_changed test f (x ∷ xs) (suc k) same =
    let one = sum_by-cons (λ y. cond (test y) 1 0) x (change f xs k) in
    let two = sum_by-cons (λ y. cond (test y) 1 0) x xs in
    let rest = count_changed test f xs k same in
    omega (arith, one, two, rest)

counted : (b : Bool) → cond b 1 0 ≡ number b
counted true = refl
counted false = refl

pub count_pushed : {A : Type 0} (test : A → Bool) (xs : List A) (x : A) → count_by test (xs ++ x ∷ []) ≡ count_by test xs + number (test x)
count_pushed test xs x = sum_by_push (λ y. cond (test y) 1 0) xs x ∙ ap (λ n. count_by test xs + n) (counted (test x))

-- ---- rows that stay stopped

abbrev pub StayStopped : List Adapter → List Adapter → Type 0
StayStopped [] [] = Unit {0}
StayStopped (x ∷ xs) (y ∷ ys) = (is_stopped x.phase ≡ true → is_stopped y.phase ≡ true) × StayStopped xs ys
StayStopped _ _ = ⊥

pub all_stay : (xs : List Adapter) → StayStopped xs xs
all_stay [] = tt
all_stay (x ∷ xs) = ((λ h. h), all_stay xs)

pub stay_changed : (f : Adapter → Adapter) (xs : List Adapter) (k : ℕ) → ((x : Adapter) → slice_get xs k ≡ Some x → is_stopped x.phase ≡ true → is_stopped (f x).phase ≡ true) → StayStopped xs (change f xs k)
stay_changed f [] k same = tt
stay_changed f (x ∷ xs) zero same = (same x refl, all_stay xs)
stay_changed f (x ∷ xs) (suc k) same = ((λ h. h), stay_changed f xs k same)

-- ---- sums over those that are not stopped

abbrev live : Adapter → Bool
live row = not (is_stopped row.phase)

abbrev rooms : (ℕ → ℕ) → ℕ → List Adapter → ℕ
rooms f n xs = sum_by f (numbers_from n live xs)

passed : (f g : ℕ → ℕ) (n : ℕ) (a b : Bool) (xs ys : List ℕ) → (a ≡ true → b ≡ true) → g n ≤ f n → sum_by g ys ≤ sum_by f xs → sum_by g (in_front (not b) n ys) ≤ sum_by f (in_front (not a) n xs)
passed f g n true true xs ys same less rest = rest
passed f g n true false xs ys same less rest = let e : false ≡ true = same refl in absurd (cc)
passed f g n false true xs ys same less rest = let one = sum_by-cons f n xs in omega (arith, one, rest)
passed f g n false false xs ys same less rest =
    let one = sum_by-cons f n xs in
    let two = sum_by-cons g n ys in
    omega (arith, one, two, less, rest)

pub rooms_less : (f g : ℕ → ℕ) (n : ℕ) (xs ys : List Adapter) → StayStopped xs ys → ((a : ℕ) → n ≤ a → g a ≤ f a) → rooms g n ys ≤ rooms f n xs
rooms_less f g n [] [] stay less = omega arith
rooms_less f g n (x ∷ xs) (y ∷ ys) stay less =
    passed f g n (is_stopped x.phase) (is_stopped y.phase) (numbers_from (suc n) live xs) (numbers_from (suc n) live ys) stay.0 (less n (omega arith)) (rooms_less f g (suc n) xs ys stay.1 (λ a more. less a (omega (arith, more))))
rooms_less f g n [] (y ∷ ys) stay less = absurd stay
rooms_less f g n (x ∷ xs) [] stay less = absurd stay

-- one adapter has one thing more
one_more : (f g : ℕ → ℕ) (n k : ℕ) (b : Bool) (xs ys : List ℕ) → ((a : ℕ) → g a ≤ f a + number (a == k)) → (n ≡ k → sum_by g ys ≤ sum_by f xs) → sum_by g ys ≤ sum_by f xs + 1 → sum_by g (in_front b n ys) ≤ sum_by f (in_front b n xs) + 1
one_more f g n k false xs ys less here rest = rest
one_more f g n k true xs ys less here rest = by (n == k) refl
  where
    by : (b : Bool) → (n == k) ≡ b → sum_by g (n ∷ ys) ≤ sum_by f (n ∷ xs) + 1
    by true is =
        let one = sum_by-cons f n xs in
        let two = sum_by-cons g n ys in
        let most = less n in
        let bit = ap number is in
        let rest = here (grind (arith, is)) in
        omega (arith, one, two, most, bit, rest)
    by false is =
        let one = sum_by-cons f n xs in
        let two = sum_by-cons g n ys in
        let most = less n in
        let bit = ap number is in
        omega (arith, one, two, most, bit, rest)

other : (a k : ℕ) → k < a → number (a == k) ≡ 0
other a k less = let e : (a == k) ≡ false = grind (arith, less) in ap number e

pub rooms_more : (f g : ℕ → ℕ) (k n : ℕ) (xs : List Adapter) → ((a : ℕ) → g a ≤ f a + number (a == k)) → rooms g n xs ≤ rooms f n xs + 1
rooms_more f g k n [] less = omega arith
rooms_more f g k n (x ∷ xs) less =
    one_more f g n k (live x) (numbers_from (suc n) live xs) (numbers_from (suc n) live xs) less
    (λ same. rooms_less f g (suc n) xs xs (all_stay xs) (λ a more. let is = less a in let no_bit = other a k (omega (arith, same, more)) in omega (arith, is, no_bit)))
    (rooms_more f g k (suc n) xs less)

-- ---- the room

pub fits : (o m : Owner) → StayStopped o.adapters m.adapters → ((a : ℕ) → outstanding m a ≤ outstanding o a) → stop_room m ≤ stop_room o
fits o m stay less = rooms_less (λ a. 1 + outstanding o a) (λ a. 1 + outstanding m a) 0 o.adapters m.adapters stay (λ a more. let is = less a in omega (arith, is))

pub fits_more : (o m : Owner) (k : ℕ) → m.adapters ≡ o.adapters → ((a : ℕ) → outstanding m a ≤ outstanding o a + number (a == k)) → stop_room m ≤ stop_room o + 1
fits_more o m k same less =
    subst (λ (rows : List Adapter). rooms (λ a. 1 + outstanding m a) 0 rows ≤ stop_room o + 1) (sym same)
    (rooms_more (λ a. 1 + outstanding o a) (λ a. 1 + outstanding m a) k 0 o.adapters (λ a. let is = less a in omega (arith, is)))
