-- Counts that are kept beside rows, and the numbers of the rows that are not done.
use Rattle.std.specs.Prelude.{◌≡◌, ℕ, ◌+◌, ◌-◌, ◌<◌, Bool, true, false, ◌&&◌, ◌==◌, cond, List, [], ◌∷◌, length, get_or, count_by, Option, Some, None}
use Rattle.owner_machine.specs.State.{change, at}

-- the row passes, and belongs to n
abbrev pub of : {A : Type 0} → (A → Bool) → (A → ℕ) → ℕ → A → Bool
of passes owner n row = passes row && (owner row == n)

-- for each number of an owner, how many of the rows that pass belong to it
pub record IsTally {A : Type 0} (passes : A → Bool) (owner : A → ℕ) (counts : List ℕ) (rows : List A) : Type 0 where
  pub room : length counts ≡ 256
  pub each : (n : ℕ) → n < 256 → get_or counts n 0 ≡ count_by (of passes owner n) rows

-- the counts once a row of n passes or does so no more
abbrev pub recounted : (was is : Bool) → ℕ → List ℕ → List ℕ
recounted false true n counts = change (λ m. m + 1) counts n
recounted true false n counts = change (λ m. m - 1) counts n
recounted _ _ n counts = counts

-- a list without the first n in it
abbrev pub without : ℕ → List ℕ → List ℕ
without n [] = []
without n (x ∷ xs) = cond (x == n) xs (x ∷ without n xs)

-- the numbers of the rows that pass, once the row of n passes or does so no more
abbrev pub kept : (was is : Bool) → ℕ → List ℕ → List ℕ
kept true false n numbers = without n numbers
kept _ _ n numbers = numbers

-- the first of these numbers whose row passes
abbrev pub first_of : {A : Type 0} → (A → Bool) → List A → List ℕ → Option ℕ
first_of passes rows [] = None
first_of passes rows (k ∷ ks) = cond (at passes rows k) (Some k) (first_of passes rows ks)
