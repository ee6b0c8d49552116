-- The numbers of rows, one after the other.
use Rattle.std.proofs.Common.{◌≡◌, ℕ, zero, suc, ◌+◌, ◌≤◌, ◌<◌, Bool, true, false, List, [], ◌∷◌, ◌++◌, length, drop, refl, sym, ap, ◌∙◌, arith, append_assoc, append-nil}
use Rattle.owner_machine.specs.State.{at, numbers_from, in_front}

none_left : {A : Type 0} (rows : List A) (n : ℕ) → length rows ≤ n → drop n rows ≡ []
none_left [] zero more = refl
none_left [] (suc n) more = refl
none_left (row ∷ rows) zero more = absurd (omega arith)
none_left (row ∷ rows) (suc n) more = none_left rows n (omega arith)

-- behind the last row
pub all_numbered : {A : Type 0} (test : A → Bool) (rows : List A) (done whole : List ℕ) (n : ℕ) → length rows ≤ n
    → done ++ numbers_from n test (drop n rows) ≡ whole → done ≡ whole
all_numbered test rows done whole n more same =
    sym (append-nil done) ∙ ap (λ rs. done ++ numbers_from n test rs) (sym (none_left rows n more)) ∙ same

cut_at : {A : Type 0} (test : A → Bool) (rows : List A) (n : ℕ) (t : Bool) → n < length rows → at test rows n ≡ t
    → numbers_from n test (drop n rows) ≡ in_front t n (numbers_from (suc n) test (drop (suc n) rows))
cut_at test rows n t less is = cut rows n n less is
  where
    cut : (rs : List _) (k m : ℕ) → k < length rs → at test rs k ≡ t → numbers_from m test (drop k rs) ≡ in_front t m (numbers_from (suc m) test (drop (suc k) rs))
    cut [] k m less is = absurd (omega arith)
    cut (row ∷ rs) zero m less is = ap (λ (u : Bool). in_front u m (numbers_from (suc m) test rs)) is
    cut (row ∷ rs) (suc k) m less is = cut rs k m (omega arith) is

next_number : (n : ℕ) → n + 1 ≡ suc n
next_number n = omega arith

-- a row that passes, and one that does not
pub one_numbered : {A : Type 0} (test : A → Bool) (rows : List A) (done whole : List ℕ) (n : ℕ) → n < length rows → at test rows n ≡ true
    → done ++ numbers_from n test (drop n rows) ≡ whole → (done ++ n ∷ []) ++ numbers_from (n + 1) test (drop (n + 1) rows) ≡ whole
one_numbered test rows done whole n less is same = ap (λ (m : ℕ). (done ++ n ∷ []) ++ numbers_from m test (drop m rows)) (next_number n) ∙ append_assoc done (n ∷ []) (numbers_from (suc n) test (drop (suc n) rows)) ∙ ap (λ ns. done ++ ns) (sym (cut_at test rows n true less is)) ∙ same

pub passed_over : {A : Type 0} (test : A → Bool) (rows : List A) (done whole : List ℕ) (n : ℕ) → n < length rows → at test rows n ≡ false
    → done ++ numbers_from n test (drop n rows) ≡ whole → done ++ numbers_from (n + 1) test (drop (n + 1) rows) ≡ whole
passed_over test rows done whole n less is same = ap (λ (m : ℕ). done ++ numbers_from m test (drop m rows)) (next_number n) ∙ ap (λ ns. done ++ ns) (sym (cut_at test rows n false less is)) ∙ same
