-- Cards that have got a frame, one after the other.
use Rattle.std.proofs.Common.{◌≡◌, ℕ, zero, suc, ◌≤◌, ◌<◌, List, [], ◌∷◌, length, refl, ap, arith, map}
use Rattle.std.specs.Prelude.{slice_index_or, slice_set}

-- the first n are changed
abbrev pub changed : {A : Type 0} → (A → A) → ℕ → List A → List A
changed f zero xs = xs
changed f (suc n) [] = []
changed f (suc n) (x ∷ xs) = f x ∷ changed f n xs

pub one_more : {A : Type 0} (f : A → A) (none : A) (n : ℕ) (xs : List A) → n < length xs → slice_set (changed f n xs) n (f (slice_index_or (changed f n xs) n none)) ≡ changed f (suc n) xs
one_more f none n [] less = absurd (omega (arith, less))
one_more f none zero (x ∷ xs) less = refl
one_more f none (suc n) (x ∷ xs) less = ap (λ ys. f x ∷ ys) (one_more f none n xs (omega (arith, less)))

pub all_changed : {A : Type 0} (f : A → A) (n : ℕ) (xs : List A) → length xs ≤ n → changed f n xs ≡ map f xs
all_changed f zero [] past = refl
all_changed f (suc n) [] past = refl
all_changed f zero (x ∷ xs) past = absurd (omega (arith, past))
all_changed f (suc n) (x ∷ xs) past = ap (λ ys. f x ∷ ys) (all_changed f n xs (omega (arith, past)))
