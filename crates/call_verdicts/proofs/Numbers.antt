-- The first of the numbers of rows that pass one test, among those that pass another.
use Rattle.std.proofs.Common.{◌≡◌, ℕ, zero, suc, ◌+◌, ◌<◌, ◌≤◌, Bool, true, false, ◌&&◌, cond, List, [], ◌∷◌, length, drop, Option, Some, None, refl, ap, ◌∙◌, arith}
use Rattle.std.specs.Prelude.{filter}
use Rattle.owner_machine.specs.State.{at, in_front, numbers_from}
use Rattle.legal_run.specs.Owed.{first}

skip : (f : ℕ → Bool) (b : Bool) (n : ℕ) (ns : List ℕ) → (b && f n) ≡ false → first (filter f (in_front b n ns)) ≡ first (filter f ns)
skip f true n ns fails = ap (λ t. first (cond t (n ∷ filter f ns) (filter f ns))) fails
skip f false n ns fails = refl

take : (f : ℕ → Bool) (b : Bool) (n : ℕ) (ns : List ℕ) → (b && f n) ≡ true → first (filter f (in_front b n ns)) ≡ Some n
take f true n ns holds = ap (λ t. first (cond t (n ∷ filter f ns) (filter f ns))) holds
take f false n ns holds = cc

first_skips : {A : Type 0} (f : ℕ → Bool) (test : A → Bool) (n : ℕ) (rows : List A) (k : ℕ) → k < length rows → (at test rows k && f n) ≡ false → first (filter f (numbers_from n test (drop k rows))) ≡ first (filter f (numbers_from (suc n) test (drop (suc k) rows)))
first_skips f test n [] k less fails = absurd (omega arith)
first_skips f test n (row ∷ rows) zero less fails = skip f (test row) n (numbers_from (suc n) test rows) fails
first_skips f test n (row ∷ rows) (suc k) less fails = first_skips f test n rows k (omega arith) fails

pub first_next : {A : Type 0} (f : ℕ → Bool) (test : A → Bool) (rows : List A) (k : ℕ) → k < length rows → (at test rows k && f k) ≡ false → first (filter f (numbers_from k test (drop k rows))) ≡ first (filter f (numbers_from (k + 1) test (drop (k + 1) rows)))
first_next f test rows k less fails =
    let next : suc k ≡ k + 1 = omega arith in
    first_skips f test k rows k less fails ∙ ap (λ (m : ℕ). first (filter f (numbers_from m test (drop m rows)))) next

pub first_takes : {A : Type 0} (f : ℕ → Bool) (test : A → Bool) (n : ℕ) (rows : List A) (k : ℕ) → k < length rows → (at test rows k && f n) ≡ true → first (filter f (numbers_from n test (drop k rows))) ≡ Some n
first_takes f test n [] k less holds = absurd (omega arith)
first_takes f test n (row ∷ rows) zero less holds = take f (test row) n (numbers_from (suc n) test rows) holds
first_takes f test n (row ∷ rows) (suc k) less holds = first_takes f test n rows k (omega arith) holds

pub first_ends : {A : Type 0} (f : ℕ → Bool) (test : A → Bool) (n : ℕ) (rows : List A) (k : ℕ) → length rows ≤ k → first (filter f (numbers_from n test (drop k rows))) ≡ None
first_ends f test n [] zero less = refl
first_ends f test n [] (suc k) less = refl
first_ends f test n (row ∷ rows) zero less = absurd (omega arith)
first_ends f test n (row ∷ rows) (suc k) less = first_ends f test n rows k (omega arith)
