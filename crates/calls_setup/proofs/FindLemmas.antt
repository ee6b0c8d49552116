-- The first element that passes a test, in a loop over a list.
use Rattle.std.proofs.Common.{◌≡◌, ℕ, suc, ◌+◌, ◌<◌, true, false, List, ◌∷◌, length, get_or, drop, Some, refl, sym, ap, ◌∙◌, add-one, drop-cons}
use Rattle.std.specs.List.{find}
use Rattle.std.specs.Prelude.{Bool}

front : {X : Type 0} (xs : List X) (i : ℕ) (x : X) → i < length xs → x ≡ get_or xs i x → drop i xs ≡ x ∷ drop (i + 1) xs
front xs i x lt is = rw (add-one, drop-cons xs i x) (ap (λ y. y ∷ drop (suc i) xs) (sym is))

pub find_here : {X : Type 0} (test : X → Bool) (xs : List X) (i : ℕ) (x : X) → i < length xs → x ≡ get_or xs i x → test x ≡ true → find test (drop i xs) ≡ find test xs → find test xs ≡ Some x
find_here test xs i x lt is on so_far = sym so_far ∙ ap (find test) (front xs i x lt is) ∙ rw on refl

pub find_next : {X : Type 0} (test : X → Bool) (xs : List X) (i : ℕ) (x : X) → i < length xs → x ≡ get_or xs i x → test x ≡ false → find test (drop i xs) ≡ find test xs → find test (drop (i + 1) xs) ≡ find test xs
find_next test xs i x lt is off so_far =
    let passed : find test (x ∷ drop (i + 1) xs) ≡ find test (drop (i + 1) xs) = rw off refl in
    sym passed ∙ sym (ap (find test) (front xs i x lt is)) ∙ so_far
