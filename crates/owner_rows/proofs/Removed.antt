-- A number that is taken away at its place.
use Rattle.std.proofs.Common.{◌≡◌, ℕ, zero, suc, ◌+◌, ◌≤◌, Bool, true, false, cond, ◌==◌, List, [], ◌∷◌, Some, None, refl, sym, ap, ◌∙◌, arith}
use Rattle.std.specs.List.{position, remove}
use Rattle.owner_rows.specs.Tallies.{without}
use Rattle.owner_rows.proofs.Rows.{first_from, position_from}

same_some : (m n : ℕ) → Some m ≡ Some n → m ≡ n
same_some m n h = cc

least : (test : ℕ → Bool) (m : ℕ) (xs : List ℕ) (j : ℕ) → first_from m test xs ≡ Some j → m ≤ j
least test m [] j h = absurd (cc)
least test m (x ∷ xs) j h = by_test (test x) (λ later. least test (suc m) xs j later) h
  where
    by_test : (t : Bool) → (first_from (suc m) test xs ≡ Some j → suc m ≤ j) → cond t (Some m) (first_from (suc m) test xs) ≡ Some j → m ≤ j
    by_test true more here = let same = same_some m j here in omega (arith, same)
    by_test false more later = let less = more later in omega (arith, less)

removed_from : (n m : ℕ) (xs : List ℕ) (i j : ℕ) → j ≡ m + i → first_from m (λ x. x == n) xs ≡ Some j → remove xs i ≡ without n xs
removed_from n m [] i j same found = absurd (cc)
removed_from n m (x ∷ xs) zero j same found = by_test (x == n) found
  where
    by_test : (t : Bool) → cond t (Some m) (first_from (suc m) (λ x. x == n) xs) ≡ Some j → xs ≡ cond t xs (x ∷ without n xs)
    by_test true here = refl
    by_test false later = let less = least (λ x. x == n) (suc m) xs j later in absurd (omega (arith, less, same))
removed_from n m (x ∷ xs) (suc i) j same found = by_test (x == n) (λ later. removed_from n (suc m) xs i j (omega (arith, same)) later) found
  where
    by_test : (t : Bool) → (first_from (suc m) (λ x. x == n) xs ≡ Some j → remove xs i ≡ without n xs) → cond t (Some m) (first_from (suc m) (λ x. x == n) xs) ≡ Some j → x ∷ remove xs i ≡ cond t xs (x ∷ without n xs)
    by_test true more here = let equal = same_some m j here in absurd (omega (arith, equal, same))
    by_test false more later = ap (λ (ys : List ℕ). x ∷ ys) (more later)

pub removed_at : (n : ℕ) (xs : List ℕ) (i : ℕ) → position (λ x. x == n) xs ≡ Some i → remove xs i ≡ without n xs
removed_at n xs i found = removed_from n 0 xs i i (omega arith) (sym (position_from (λ x. x == n) xs) ∙ found)

none_from : (n m : ℕ) (xs : List ℕ) → first_from m (λ x. x == n) xs ≡ None → xs ≡ without n xs
none_from n m [] none = refl
none_from n m (x ∷ xs) none = by_test (x == n) (λ later. none_from n (suc m) xs later) none
  where
    by_test : (t : Bool) → (first_from (suc m) (λ x. x == n) xs ≡ None → xs ≡ without n xs) → cond t (Some m) (first_from (suc m) (λ x. x == n) xs) ≡ None → x ∷ xs ≡ cond t xs (x ∷ without n xs)
    by_test true more here = absurd (cc)
    by_test false more later = ap (λ (ys : List ℕ). x ∷ ys) (more later)

pub not_there : (n : ℕ) (xs : List ℕ) → position (λ x. x == n) xs ≡ None → xs ≡ without n xs
not_there n xs none = none_from n 0 xs (sym (position_from (λ x. x == n) xs) ∙ none)
