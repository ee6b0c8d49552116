-- The rows that pass a test, one after the other: their numbers, and how many they are.
use Rattle.std.proofs.Common.{◌≡◌, ℕ, zero, suc, ◌+◌, ◌<◌, ◌≤◌, Bool, true, false, cond, List, [], ◌∷◌, ◌++◌, length, drop, map, refl, sym, ap, ◌∙◌, append_assoc, append-nil, arith}
use Rattle.std.specs.Prelude.{count_by, sum_by}
use Rattle.std.proofs.lemmas.List.{drop_all}
use Rattle.std.proofs.lemmas.List.Sums.{sum_by-append}
use Rattle.nd_base.specs.declared.numbers.BindingNo.{BindingNo}
use Rattle.owner_machine.specs.State.{at, in_front, numbers_from}

next : (k : ℕ) → suc k ≡ k + 1
next k = omega arith

-- ---- their numbers

front_at : {A : Type 0} (test : A → Bool) (n : ℕ) (rows : List A) (k : ℕ) → k < length rows → numbers_from n test (drop k rows) ≡ in_front (at test rows k) n (numbers_from (suc n) test (drop (suc k) rows))
front_at test n [] k less = absurd (omega arith)
front_at test n (row ∷ rows) zero less = refl
front_at test n (row ∷ rows) (suc k) less = front_at test n rows k (omega arith)

number_at : {A : Type 0} (test : A → Bool) (rows : List A) (k : ℕ) (b : Bool) → k < length rows → at test rows k ≡ b → numbers_from k test (drop k rows) ≡ in_front b k (numbers_from (k + 1) test (drop (k + 1) rows))
number_at test rows k b less is =
    front_at test k rows k less
    ∙ ap (λ t. in_front t k (numbers_from (suc k) test (drop (suc k) rows))) is
    ∙ ap (λ (m : ℕ). in_front b k (numbers_from m test (drop m rows))) (next k)

abbrev pub driver_of : ℕ → BindingNo
driver_of b = record { 0 = b }

pub one_wants : {A : Type 0} (test : A → Bool) (rows : List A) (k : ℕ) (hs more all : List BindingNo) → k < length rows → at test rows k ≡ true → more ≡ hs ++ driver_of k ∷ [] → hs ++ map driver_of (numbers_from k test (drop k rows)) ≡ all → more ++ map driver_of (numbers_from (k + 1) test (drop (k + 1) rows)) ≡ all
one_wants test rows k hs more all less is put so =
    let rest = map driver_of (numbers_from (k + 1) test (drop (k + 1) rows)) in
    ap (λ (ds : List BindingNo). ds ++ rest) put
    ∙ append_assoc hs (driver_of k ∷ []) rest
    ∙ ap (λ (ns : List ℕ). hs ++ map driver_of ns) (sym (number_at test rows k true less is))
    ∙ so

pub one_passes : {A : Type 0} (test : A → Bool) (rows : List A) (k : ℕ) (hs all : List BindingNo) → k < length rows → at test rows k ≡ false → hs ++ map driver_of (numbers_from k test (drop k rows)) ≡ all → hs ++ map driver_of (numbers_from (k + 1) test (drop (k + 1) rows)) ≡ all
one_passes test rows k hs all less is so = ap (λ (ns : List ℕ). hs ++ map driver_of ns) (sym (number_at test rows k false less is)) ∙ so

pub all_want : {A : Type 0} (test : A → Bool) (rows : List A) (k : ℕ) (hs all : List BindingNo) → length rows ≤ k → hs ++ map driver_of (numbers_from k test (drop k rows)) ≡ all → hs ≡ all
all_want test rows k hs all most so = sym (append-nil hs) ∙ ap (λ rs. hs ++ map driver_of (numbers_from k test rs)) (sym (drop_all k rows most)) ∙ so

-- ---- how many they are

count_cons : {A : Type 0} (p : A → Bool) (x : A) (xs : List A) → count_by p (x ∷ xs) ≡ cond (p x) 1 0 + count_by p xs
count_cons p x xs = let parts = sum_by-append (λ y. cond (p y) 1 0) (x ∷ []) xs in omega (arith, parts)

count_at : {A : Type 0} (p : A → Bool) (rows : List A) (k : ℕ) → k < length rows → count_by p (drop k rows) ≡ cond (at p rows k) 1 0 + count_by p (drop (suc k) rows)
count_at p [] k less = absurd (omega arith)
count_at p (row ∷ rows) zero less = count_cons p row rows
count_at p (row ∷ rows) (suc k) less = count_at p rows k (omega arith)

pub one_counts : {A : Type 0} (p : A → Bool) (rows : List A) (k n all : ℕ) → k < length rows → at p rows k ≡ true → n + count_by p (drop k rows) ≡ all → (n + 1) + count_by p (drop (k + 1) rows) ≡ all
one_counts p rows k n all less is so =
    let here : count_by p (drop k rows) ≡ 1 + count_by p (drop (k + 1) rows) =
    count_at p rows k less ∙ ap (λ b. cond b 1 0 + count_by p (drop (suc k) rows)) is ∙ ap (λ (m : ℕ). 1 + count_by p (drop m rows)) (next k) in
    omega (arith, here, so)

pub none_counts : {A : Type 0} (p : A → Bool) (rows : List A) (k n all : ℕ) → k < length rows → at p rows k ≡ false → n + count_by p (drop k rows) ≡ all → n + count_by p (drop (k + 1) rows) ≡ all
none_counts p rows k n all less is so =
    let here : count_by p (drop k rows) ≡ 0 + count_by p (drop (k + 1) rows) =
    count_at p rows k less ∙ ap (λ b. cond b 1 0 + count_by p (drop (suc k) rows)) is ∙ ap (λ (m : ℕ). 0 + count_by p (drop m rows)) (next k) in
    omega (arith, here, so)

pub all_counted : {A : Type 0} (p : A → Bool) (rows : List A) (k n all : ℕ) → length rows ≤ k → n + count_by p (drop k rows) ≡ all → n ≡ all
all_counted p rows k n all most so =
    let here : count_by p (drop k rows) ≡ 0 = ap (count_by p) (drop_all k rows most) in
    omega (arith, here, so)
