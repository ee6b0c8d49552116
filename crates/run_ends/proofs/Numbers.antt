-- Numbers of which the first ones don't pass a test.
use Rattle.std.proofs.Common.{◌≡◌, ℕ, zero, suc, ◌+◌, ◌≤◌, ◌<◌, Bool, true, false, not, ◌&&◌, cond, List, [], ◌∷◌, refl, ap, ◌∙◌, arith, length, drop}
use Rattle.std.specs.Prelude.{filter, nat_lt}
use Rattle.std.specs.List.{list_all}
use Rattle.legal_run.specs.State.{numbers}

-- those that don't pass need not be asked for
past_from : {A : Type 0} (p : ℕ → Bool) (m k : ℕ) (xs : List A) → ((b : ℕ) → m ≤ b → b < m + k → p b ≡ false) → filter p (numbers m xs) ≡ filter p (numbers (m + k) (drop k xs))
past_from p m zero [] none = refl
past_from p m zero (x ∷ xs) none = ap (λ n. filter p (numbers n (x ∷ xs))) (omega arith)
past_from p m (suc k) [] none = refl
past_from p m (suc k) (x ∷ xs) none =
    ap (λ b. cond b (m ∷ filter p (numbers (suc m) xs)) (filter p (numbers (suc m) xs))) (none m (omega arith) (omega arith))
    ∙ past_from p (suc m) k xs (λ b more less. none b (omega (arith, more)) (omega (arith, less)))
    ∙ ap (λ n. filter p (numbers n (drop k xs))) (omega arith)

pub past : {A : Type 0} (p : ℕ → Bool) (n : ℕ) (xs : List A) → ((b : ℕ) → b < n → p b ≡ false) → filter p (numbers 0 xs) ≡ filter p (numbers n (drop n xs))
past p n xs none = past_from p 0 n xs (λ b more under. none b (omega (arith, under))) ∙ ap (λ m. filter p (numbers m (drop n xs))) (omega arith)

next_of : {A : Type 0} (n : ℕ) (xs : List A) → n < length xs → (x : A) × (drop n xs ≡ x ∷ drop (suc n) xs)
next_of n [] less = absurd (omega arith)
next_of zero (x ∷ xs) less = (x, refl)
next_of (suc n) (x ∷ xs) less = next_of n xs (omega arith)

-- the first that passes
pub found : {A : Type 0} (p : ℕ → Bool) (n : ℕ) (xs : List A) → n < length xs → ((b : ℕ) → b < n → p b ≡ false) → p n ≡ true → filter p (numbers 0 xs) ≡ n ∷ filter p (numbers (suc n) (drop (suc n) xs))
found p n xs less none is =
    let (x, rest) = next_of n xs less in
    past p n xs none
    ∙ ap (λ ys. filter p (numbers n ys)) rest
    ∙ ap (λ b. cond b (n ∷ filter p (numbers (suc n) (drop (suc n) xs))) (filter p (numbers (suc n) (drop (suc n) xs)))) is

-- those behind a number are above it
pub above : {A : Type 0} (p : ℕ → Bool) (n m : ℕ) (xs : List A) → n < m → filter (λ b. nat_lt n b) (filter p (numbers m xs)) ≡ filter p (numbers m xs)
above p n m [] less = refl
above p n m (x ∷ xs) less = by (p m) (above p n (suc m) xs (omega (arith, less)))
  where
    rest : List ℕ
    rest = filter p (numbers (suc m) xs)

    by : (b : Bool) → filter (λ b. nat_lt n b) rest ≡ rest → filter (λ b. nat_lt n b) (cond b (m ∷ rest) rest) ≡ cond b (m ∷ rest) rest
    by true same = let is : nat_lt n m ≡ true = grind (arith, less) in ap (λ t. cond t (m ∷ filter (λ b. nat_lt n b) rest) (filter (λ b. nat_lt n b) rest)) is ∙ ap (λ ns. m ∷ ns) same
    by false same = same

pub not_itself : (n : ℕ) (ns : List ℕ) → filter (λ b. nat_lt n b) (n ∷ ns) ≡ filter (λ b. nat_lt n b) ns
not_itself n ns = let is : nat_lt n n ≡ false = grind arith in ap (λ t. cond t (n ∷ filter (λ b. nat_lt n b) ns) (filter (λ b. nat_lt n b) ns)) is

pub same_filter : {A : Type 0} (p q : ℕ → Bool) (n : ℕ) (xs : List A) → ((b : ℕ) → n ≤ b → p b ≡ q b) → filter p (numbers n xs) ≡ filter q (numbers n xs)
same_filter p q n [] same = refl
same_filter p q n (x ∷ xs) same =
    let here : p n ≡ q n = same n (omega arith) in
    let rest : filter p (numbers (suc n) xs) ≡ filter q (numbers (suc n) xs) = same_filter p q (suc n) xs (λ b more. same b (omega (arith, more))) in
    rw (here, rest) refl

-- where all pass none fails
pub none_left : (p : ℕ → Bool) (ns : List ℕ) → list_all p ns ≡ true → filter (λ a. not (p a)) ns ≡ []
none_left p [] h = refl
none_left p (n ∷ ns) h = by (p n) refl h (λ rest. none_left p ns rest)
  where
    by : (b : Bool) → p n ≡ b → b && list_all p ns ≡ true → (list_all p ns ≡ true → filter (λ a. not (p a)) ns ≡ []) → cond (not (p n)) (n ∷ filter (λ a. not (p a)) ns) (filter (λ a. not (p a)) ns) ≡ []
    by true is rest onward = ap (λ t. cond (not t) (n ∷ filter (λ a. not (p a)) ns) (filter (λ a. not (p a)) ns)) is ∙ onward rest
    by false is rest onward = absurd (cc)

pub all_pass : {A : Type 0} (p : ℕ → Bool) (m : ℕ) (xs : List A) → ((b : ℕ) → b < m + length xs → p b ≡ true) → list_all p (numbers m xs) ≡ true
all_pass p m [] each = refl
all_pass p m (x ∷ xs) each = ap (λ b. b && list_all p (numbers (suc m) xs)) (each m (omega arith)) ∙ all_pass p (suc m) xs (λ b less. each b (omega (arith, less)))
