-- One element more, and folds over parts of a list.
use Rattle.std.proofs.Common.{◌≡◌, ℕ, ◌+◌, ◌<◌, List, [], ◌∷◌, ◌++◌, length, map, take, get_or, Option, None, Some, refl, sym, ap, ◌∙◌, append_assoc}
use Rattle.std.specs.List.{fold, flat_map, filter_map, cons_option}
use Rattle.std.specs.Option.{option_or}
use Rattle.std.proofs.lemmas.List.{take_more, map-append, append-nil}
use Rattle.std.proofs.lemmas.List.Sums.{fold-append}
use Rattle.std.proofs.lemmas.List.Elements.{filter_map-append}
use Rattle.std.proofs.lemmas.List.Concat.{flat_map-cons}

pub take_item : {A : Type 0} (xs : List A) (i : ℕ) (x : A) → i < length xs → x ≡ get_or xs i x → take (i + 1) xs ≡ take i xs ++ x ∷ []
take_item xs i x lt e = take_more xs i x lt ∙ ap (λ y. take i xs ++ y ∷ []) (sym e)

pub filter_map_more : {A B : Type 0} (g : A → Option B) (xs : List A) (i : ℕ) (x : A) → i < length xs → x ≡ get_or xs i x → filter_map g (take (i + 1) xs) ≡ filter_map g (take i xs) ++ cons_option (g x) []
filter_map_more g xs i x lt e = ap (filter_map g) (take_item xs i x lt e) ∙ filter_map-append g (take i xs) (x ∷ [])

pub filter_map_behind : {A B : Type 0} (g : A → Option B) (front : List B) (xs : List A) (i : ℕ) (x : A) → i < length xs → x ≡ get_or xs i x → (front ++ filter_map g (take i xs)) ++ cons_option (g x) [] ≡ front ++ filter_map g (take (i + 1) xs)
filter_map_behind g front xs i x lt e = append_assoc front (filter_map g (take i xs)) (cons_option (g x) []) ∙ ap (λ ys. front ++ ys) (sym (filter_map_more g xs i x lt e))

pub nothing_behind : {A : Type 0} (front : List A) → front ≡ front ++ []
nothing_behind front = sym (append-nil front)

pub fold-flat : {A B C : Type 0} (f : B → A → B) (g : C → List A) (a : B) (xs : List C) → fold (λ b x. fold f b (g x)) a xs ≡ fold f a (flat_map g xs)
fold-flat f g a [] = refl
fold-flat f g a (x ∷ xs) = fold-flat f g (fold f a (g x)) xs ∙ sym (fold-append f a (g x) (flat_map g xs)) ∙ ap (fold f a) (sym (flat_map-cons g x xs))

pub filter_map-flat : {A B C : Type 0} (h : A → Option B) (g : C → List A) (xs : List C) → flat_map (λ x. filter_map h (g x)) xs ≡ filter_map h (flat_map g xs)
filter_map-flat h g [] = refl
filter_map-flat h g (x ∷ xs) = flat_map-cons (λ y. filter_map h (g y)) x xs ∙ ap (λ rest. filter_map h (g x) ++ rest) (filter_map-flat h g xs) ∙ sym (filter_map-append h (g x) (flat_map g xs)) ∙ ap (filter_map h) (sym (flat_map-cons g x xs))

pub fold-all : {A B : Type 0} (f : B → A → B) (a : B) (xs : List A) (x : A) (ds rs : List A) → fold f a (xs ++ x ∷ (ds ++ rs)) ≡ fold f (fold f (f (fold f a xs) x) ds) rs
fold-all f a xs x ds rs = fold-append f a xs (x ∷ (ds ++ rs)) ∙ fold-append f (f (fold f a xs) x) ds rs

-- the same where the elements point to what is read
map-more : {P A : Type 0} (now : P → A) (xs : List P) (i : ℕ) (x : P) → i < length xs → x ≡ get_or xs i x → map now (take (i + 1) xs) ≡ map now (take i xs) ++ now x ∷ []
map-more now xs i x lt e = ap (map now) (take_item xs i x lt e) ∙ map-append now (take i xs) (x ∷ [])

pub fold-mapped : {P A B : Type 0} (f : B → A → B) (now : P → A) (a : B) (xs : List P) (i : ℕ) (x : P) → i < length xs → x ≡ get_or xs i x → fold f a (map now (take (i + 1) xs)) ≡ f (fold f a (map now (take i xs))) (now x)
fold-mapped f now a xs i x lt e = ap (fold f a) (map-more now xs i x lt e) ∙ fold-append f a (map now (take i xs)) (now x ∷ [])

pub filter_map-mapped : {P A B : Type 0} (g : A → Option B) (now : P → A) (xs : List P) (i : ℕ) (x : P) → i < length xs → x ≡ get_or xs i x → filter_map g (map now (take (i + 1) xs)) ≡ filter_map g (map now (take i xs)) ++ cons_option (g (now x)) []
filter_map-mapped g now xs i x lt e = ap (filter_map g) (map-more now xs i x lt e) ∙ filter_map-append g (map now (take i xs)) (now x ∷ [])

-- ---- values that may be absent

pub or_none : {A : Type 0} (o : Option A) → option_or o None ≡ o
or_none None = refl
or_none (Some x) = refl

pub or_assoc : {A : Type 0} (u v w : Option A) → option_or (option_or u v) w ≡ option_or u (option_or v w)
or_assoc None v w = refl
or_assoc (Some x) v w = refl
