-- Laws of a change of one row: a write of the changed row is that change. They hold of rows of any kind, which no clause can say, so they are lemmas.
use Rattle.std.proofs.Common.{◌≡◌, ℕ, zero, suc, ◌≤◌, ◌<◌, List, [], ◌∷◌, length, get_or, Some, None, refl, sym, ap, ◌∙◌, arith, slice_get}
use Rattle.std.specs.Prelude.{slice_set}
use Rattle.owner_machine.specs.State.{change}

pub change_none : {A : Type 0} (f : A → A) (rows : List A) (k : ℕ) → slice_get rows k ≡ None → change f rows k ≡ rows
change_none f [] k is = refl
change_none f (x ∷ rows) zero is = absurd (cc)
change_none f (x ∷ rows) (suc k) is = ap (λ ys. x ∷ ys) (change_none f rows k is)

-- a write, by the change that it is
pub written : {A : Type 0} (f : A → A) (rows : List A) (k : ℕ) (row new : A) → slice_get rows k ≡ Some row → new ≡ f row → slice_set rows k new ≡ change f rows k
written f [] k row new is same = absurd (cc)
written f (x ∷ rows) zero row new is same = let here : x ≡ row = cc in ap (λ y. y ∷ rows) (same ∙ ap f (sym here))
written f (x ∷ rows) (suc k) row new is same = ap (λ ys. x ∷ ys) (written f rows k row new is same)

pub written_at : {A : Type 0} (f : A → A) (rows : List A) (k : ℕ) (row new : A) → k < length rows → row ≡ get_or rows k row → new ≡ f row → slice_set rows k new ≡ change f rows k
written_at f [] k row new less is same = absurd (omega arith)
written_at f (x ∷ rows) zero row new less is same = ap (λ y. y ∷ rows) (same ∙ ap f is)
written_at f (x ∷ rows) (suc k) row new less is same = ap (λ ys. x ∷ ys) (written_at f rows k row new (omega arith) is same)

pub change_past : {A : Type 0} (f : A → A) (rows : List A) (k : ℕ) → length rows ≤ k → change f rows k ≡ rows
change_past f [] k more = refl
change_past f (x ∷ rows) zero more = absurd (omega arith)
change_past f (x ∷ rows) (suc k) more = ap (λ ys. x ∷ ys) (change_past f rows k (omega arith))

-- a change by what it makes of its row
pub change_to : {A : Type 0} (f : A → A) (rows : List A) (k : ℕ) (row new : A) → slice_get rows k ≡ Some row → new ≡ f row → change (λ _. new) rows k ≡ change f rows k
change_to f [] k row new is same = refl
change_to f (x ∷ rows) zero row new is same = let here : x ≡ row = cc in ap (λ y. y ∷ rows) (same ∙ ap f (sym here))
change_to f (x ∷ rows) (suc k) row new is same = ap (λ ys. x ∷ ys) (change_to f rows k row new is same)

-- a row that is written back as it was
pub written_back : {A : Type 0} (rows : List A) (k : ℕ) (row new : A) → k < length rows → row ≡ get_or rows k row → new ≡ row → slice_set rows k new ≡ rows
written_back [] k row new less is same = absurd (omega arith)
written_back (x ∷ rows) zero row new less is same = ap (λ y. y ∷ rows) (same ∙ is)
written_back (x ∷ rows) (suc k) row new less is same = ap (λ ys. x ∷ ys) (written_back rows k row new (omega arith) is same)
