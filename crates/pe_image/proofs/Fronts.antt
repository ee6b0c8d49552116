-- A list that is read from left to right, as a loop does: what was read, and what is still read.
use Rattle.std.proofs.Common.{◌≡◌, List, [], ◌++◌, Result, Ok, Err, refl, sym, ap, ◌∙◌, append_assoc}
use Rattle.std.proofs.lemmas.List.{append-nil}
use Rattle.pe_image.specs.declared.refusal.PeRefusal.{PeRefusal}
use Rattle.nd_base.specs.Results.{◌>>=◌}

-- a list that is read behind one that was read before
abbrev pub with_front : {A : Type 0} → List A → Result (List A) PeRefusal → Result (List A) PeRefusal
with_front front read = read >>= λ x. Ok (front ++ x)

pub with_front-nil : {A : Type 0} (read : Result (List A) PeRefusal) → with_front [] read ≡ read
with_front-nil (Ok x) = refl
with_front-nil (Err e) = refl

regroup : {A : Type 0} (front here : List A) (next : Result (List A) PeRefusal) → with_front front (next >>= λ x. Ok (here ++ x)) ≡ with_front (front ++ here) next
regroup front here (Ok x) = ap Ok (sym (append_assoc front here x))
regroup front here (Err e) = refl

-- some are read, and then others
pub goes_on : {A : Type 0} (front here items : List A) (read next total : Result (List A) PeRefusal) → read ≡ (next >>= λ x. Ok (here ++ x)) → items ≡ front ++ here → with_front front read ≡ total → with_front items next ≡ total
goes_on front here items read next total step is so_far =
    ap (λ (x : List _). with_front x next) is ∙ sym (regroup front here next) ∙ sym (ap (with_front front) step) ∙ so_far

-- a refusal
pub stops : {A : Type 0} (front : List A) (read total : Result (List A) PeRefusal) (e : PeRefusal) → read ≡ Err e → with_front front read ≡ total → total ≡ Err e
stops front read total e is so_far = sym so_far ∙ ap (with_front front) is

-- nothing is left
pub ends : {A : Type 0} (front : List A) (read total : Result (List A) PeRefusal) → read ≡ Ok [] → with_front front read ≡ total → total ≡ Ok front
ends front read total is so_far = sym so_far ∙ ap (with_front front) is ∙ ap Ok (append-nil front)

-- some are read, and others behind them
chained : {A : Type 0} (front : List A) (read next : Result (List A) PeRefusal) → with_front front (read >>= λ here. next >>= λ others. Ok (here ++ others)) ≡ (with_front front read >>= λ items. with_front items next)
chained front (Ok here) next = regroup front here next
chained front (Err e) next = refl

pub then_on : {A : Type 0} (front items : List A) (read next total : Result (List A) PeRefusal) → with_front front read ≡ Ok items
    → with_front front (read >>= λ here. next >>= λ others. Ok (here ++ others)) ≡ total → with_front items next ≡ total
then_on front items read next total is so_far = sym (chained front read next ∙ ap (λ (r : Result (List _) PeRefusal). r >>= λ x. with_front x next) is) ∙ so_far

pub then_stop : {A : Type 0} (front : List A) (read next total : Result (List A) PeRefusal) (e : PeRefusal) → with_front front read ≡ Err e
    → with_front front (read >>= λ here. next >>= λ others. Ok (here ++ others)) ≡ total → total ≡ Err e
then_stop front read next total e is so_far = sym so_far ∙ chained front read next ∙ ap (λ (r : Result (List _) PeRefusal). r >>= λ x. with_front x next) is
