-- Adapters and drivers before the first entry, one after the other.
use Rattle.std.proofs.Common.{◌≡◌, ℕ, zero, suc, ◌+◌, ◌≤◌, ◌<◌, List, [], ◌∷◌, ◌++◌, length, get_or, take, map, refl, ap, ◌∙◌, arith}
use Rattle.std.specs.Prelude.{replicate}

next_number : (n : ℕ) → suc n ≡ n + 1
next_number n = omega arith

replicate_more : {A : Type 0} (n : ℕ) (x : A) → replicate n x ++ x ∷ [] ≡ replicate (suc n) x
replicate_more zero x = refl
replicate_more (suc n) x = ap (λ xs. x ∷ xs) (replicate_more n x)

pub one_more : {A : Type 0} (xs : List A) (n : ℕ) (x y : A) → xs ≡ replicate n y → x ≡ y → xs ++ x ∷ [] ≡ replicate (n + 1) y
one_more xs n x y same is = ap (λ zs. zs ++ x ∷ []) same ∙ ap (λ z. replicate n y ++ z ∷ []) is ∙ replicate_more n y ∙ ap (λ (m : ℕ). replicate m y) (next_number n)

map_more : {A B : Type 0} (f : A → B) (xs : List A) (i : ℕ) (x : A) → i < length xs → x ≡ get_or xs i x → map f (take i xs) ++ f x ∷ [] ≡ map f (take (suc i) xs)
map_more f [] i x less is = absurd (omega arith)
map_more f (y ∷ xs) zero x less is = ap (λ z. f z ∷ []) is
map_more f (y ∷ xs) (suc i) x less is = ap (λ zs. f y ∷ zs) (map_more f xs i x (omega arith) is)

pub mapped_more : {A B : Type 0} (f : A → B) (ys : List B) (xs : List A) (i : ℕ) (x : A) (y : B) → i < length xs → x ≡ get_or xs i x → y ≡ f x → ys ≡ map f (take i xs) → ys ++ y ∷ [] ≡ map f (take (i + 1) xs)
mapped_more f ys xs i x y less is made same = ap (λ zs. zs ++ y ∷ []) same ∙ ap (λ z. map f (take i xs) ++ z ∷ []) made ∙ map_more f xs i x less is ∙ ap (λ (m : ℕ). map f (take m xs)) (next_number i)

take_all : {A : Type 0} (n : ℕ) (xs : List A) → length xs ≤ n → take n xs ≡ xs
take_all zero [] less = refl
take_all zero (x ∷ xs) less = absurd (omega arith)
take_all (suc n) [] less = refl
take_all (suc n) (x ∷ xs) less = ap (λ ys. x ∷ ys) (take_all n xs (omega arith))

pub mapped_all : {A B : Type 0} (f : A → B) (ys : List B) (xs : List A) (i : ℕ) → length xs ≤ i → ys ≡ map f (take i xs) → ys ≡ map f xs
mapped_all f ys xs i less same = same ∙ ap (map f) (take_all i xs less)
