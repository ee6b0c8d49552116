-- What is left of a budget, and charges that stay small.
use Rattle.std.proofs.Common.{◌≡◌, ℕ, zero, suc, ◌+◌, ◌^◌, ◌<◌, ◌≤◌, ◌⊎◌, Bool, true, false, ◌||◌, List, [], ◌∷◌, length, Option, None, Some, refl, sym, ap, ◌∙◌, arith, inl, inr}
use Rattle.std.specs.Prelude.{nat_le, slice_index_or, slice_set}
use Rattle.std.specs.List.{list_any}
use Rattle.std.proofs.lemmas.Bool.{cases_eq, cases_lt}
use Rattle.std.proofs.lemmas.Bool.Decides.{nat_tests}
use Rattle.std.proofs.lemmas.List.{get_or-set_same, get_or-set_other, get_or_read, length-set}
use Rattle.std.specs.Vec.{with_item}
use Rattle.nd_base.specs.declared.numbers.AdapterNo.{AdapterNo}
use Rattle.legal_run.specs.State.{Inputs, State, numbers}
use Rattle.legal_run.specs.After.{charge_to, reaches_for}
use Rattle.miniport_state.specs.declared.adapters.Adapters.{Adapters}
use Rattle.miniport_state.specs.Seen.{Keeps}
use Rattle.miniport.specs.Charges.{IsMost, IsOwn}

left : (x y : Bool) → (x || y) ≡ false → x ≡ false
left false y h = refl
left true y h = h

below : (a b : ℕ) → nat_le a b ≡ false → b < a
below a b h = grind (arith, nat_tests)

-- DriverEntry has not reached the budget
pub under_own : (c : Inputs) (s : State) (m : Adapters) → Keeps c s m → reaches_for c s None 0 ≡ false → m.charged < 2 ^ 32
under_own c s m k h =
    let less : s.charged + 0 < c.budget = below c.budget (s.charged + 0) (left _ _ h) in
    omega (arith, less, k.own, k.most, k.small.within)

pub under_each : (c : Inputs) (s : State) (m : Adapters) (a : AdapterNo) → Keeps c s m → reaches_for c s (Some a) 0 ≡ false → slice_index_or m.charges.items a.0 0 < 2 ^ 32
under_each c s m a k h =
    let less = below c.budget _ h in
    let same : slice_index_or m.charges.items a.0 0 ≡ slice_index_or s.charges a.0 0 = ap (λ (cs : List ℕ). slice_index_or cs a.0 0) k.each in
    omega (arith, less, same, k.most, k.small.within)

-- a charge among others that stays small
pub still_small : (charges : List ℕ) (a n : ℕ) → ((i : ℕ) → slice_index_or charges i 0 < 2 ^ 34) → a < length charges → n < 2 ^ 34 → (i : ℕ) → slice_index_or (slice_set charges a n) i 0 < 2 ^ 34
still_small charges a n each inside small i = elim (cases_eq i a) [
  | inl same ↦ let e : slice_index_or (slice_set charges a n) i 0 ≡ n = ap (λ (j : ℕ). slice_index_or (slice_set charges a n) j 0) same ∙ get_or-set_same charges a n 0 inside in omega (arith, e)
  | inr other ↦ let e : slice_index_or (slice_set charges a n) i 0 ≡ slice_index_or charges i 0 = get_or-set_other charges a i n 0 other in omega (arith, e, each i)
]

-- ---- what counts against a budget

any_false : {A : Type 0} (f : ℕ → Bool) (n : ℕ) (xs : List A) → ((i : ℕ) → i < length xs → f (n + i) ≡ false) → list_any f (numbers n xs) ≡ false
any_false f n [] h = refl
any_false f n (x ∷ xs) h =
    let first : f n ≡ false = ap f (omega arith) ∙ h 0 (omega arith) in
    let rest : list_any f (numbers (suc n) xs) ≡ false = any_false f (suc n) xs (λ i less. ap f (omega arith) ∙ h (suc i) (omega arith)) in
    rw (first, rest) refl

any_true : {A : Type 0} (f : ℕ → Bool) (n : ℕ) (xs : List A) (i : ℕ) → i < length xs → f (n + i) ≡ true → list_any f (numbers n xs) ≡ true
any_true f n [] i less h = absurd (omega arith)
any_true f n (x ∷ xs) zero less h = let first : f n ≡ true = ap f (omega arith) ∙ h in rw first refl
any_true f n (x ∷ xs) (suc i) less h =
    other (f n) (list_any f (numbers (suc n) xs)) (any_true f (suc n) xs i (omega arith) (ap f (omega arith) ∙ h))
  where
    other : (x y : Bool) → y ≡ true → (x || y) ≡ true
    other true y h = refl
    other false y h = h

at_most : (a b : ℕ) → a ≤ b → nat_le a b ≡ true
at_most a b h = grind (arith, nat_tests)

above : (a b : ℕ) → b < a → nat_le a b ≡ false
above a b h = grind (arith, nat_tests)

one_of : (x y : Bool) → (x ≡ true) ⊎ (y ≡ true) → (x || y) ≡ true
one_of true y h = refl
one_of false y (inl h) = cc
one_of false y (inr h) = h

none_of : (x y : Bool) → x ≡ false → y ≡ false → (x || y) ≡ false
none_of true y h k = h
none_of false y h k = k

-- of DriverEntry: the largest charge of an adapter decides
used_by_all : (c : Inputs) (s : State) (m : Adapters) (own n : ℕ) → Keeps c s m → IsMost m.charges.items own → reaches_for c s None n ≡ nat_le c.budget (m.charged + own + n)
used_by_all c s m own n k most = elim (cases_lt (m.charged + own + n) c.budget) [
  | inl under ↦ none_of _ _ (above c.budget (s.charged + n) (omega (arith, under, k.own))) (any_false _ 0 c.adapters (λ i less. above c.budget _ (omega (arith, under, k.own, most.above i, each i)))) ∙ sym (above c.budget _ under)
  | inr over ↦ one_of _ _ (elim most.one [
    | inl none ↦ inl (at_most c.budget (s.charged + n) (omega (arith, over, none, k.own)))
    | inr some ↦ inr (any_true _ 0 c.adapters some.0 (omega (arith, some.1.0, k.count)) (at_most c.budget _ (omega (arith, over, k.own, some.1.1, each some.0))))
  ]) ∙ sym (at_most c.budget _ over)
]
  where
    each : (i : ℕ) → slice_index_or s.charges (0 + i) 0 ≡ slice_index_or m.charges.items i 0
    each i = ap (λ (cs : List ℕ). slice_index_or cs (0 + i) 0) (sym k.each) ∙ ap (λ j. slice_index_or m.charges.items j 0) (omega arith)

pub used_is : (c : Inputs) (s : State) (m : Adapters) (adapter : Option AdapterNo) (own n : ℕ) → Keeps c s m → IsOwn m.charges.items adapter own
    → reaches_for c s adapter n ≡ nat_le c.budget (m.charged + own + n)
used_is c s m None own n k most = used_by_all c s m own n k most
used_is c s m (Some a) own n k is =
    ap (λ x. nat_le c.budget (x + n)) (ap (λ x. x + slice_index_or s.charges a.0 0) (sym k.own) ∙ ap (λ (cs : List ℕ). m.charged + slice_index_or cs a.0 0) (sym k.each) ∙ ap (λ x. m.charged + x) (sym is))

-- ---- what is kept behind a charge

pub charged_own : (c : Inputs) (s : State) (m : Adapters) (adapter : Option AdapterNo) (n : ℕ) → Keeps c s m → reaches_for c s adapter 0 ≡ false → n ≤ 2 ^ 33 → adapter ≡ None
    → Keeps c (charge_to s adapter n) (record m { charged = m.charged + n })
charged_own c s m (Some a) n k h most is = cc
charged_own c s m None n k h most is =
    let less = under_own c s m k h in
    record {
      rows = k.rows;
      sixteen = k.sixteen;
      entry = k.entry;
      come = k.come;
      own = ap (λ x. x + n) k.own;
      each = k.each;
      count = k.count;
      few = k.few;
      small = record { within = k.small.within; own = omega (arith, less); each = k.small.each };
      levels = k.levels;
      most = k.most;
      begins = k.begins;
      ends = k.ends;
    }

pub charged_each : (c : Inputs) (s : State) (m : Adapters) (adapter : Option AdapterNo) (n : ℕ) (a : AdapterNo) (place y : ℕ) → Keeps c s m → reaches_for c s adapter 0 ≡ false → n ≤ 2 ^ 33
    → adapter ≡ Some a → place ≡ a.0 → place < length m.charges.items → y ≡ slice_index_or m.charges.items place y
    → Keeps c (charge_to s adapter n) (record m { charges = with_item m.charges place (y + n) })
charged_each c s m None n a place y k h most is at inside value = cc
charged_each c s m (Some b) n a place y k h most is at inside value =
    let here : place ≡ b.0 = at ∙ cc in
    let less = under_each c s m b k h in
    let same : y ≡ slice_index_or m.charges.items b.0 0 = get_or_read m.charges.items place y inside value 0 ∙ ap (λ i. slice_index_or m.charges.items i 0) here in
    record {
      rows = k.rows;
      sixteen = k.sixteen;
      entry = k.entry;
      come = k.come;
      own = k.own;
      each = ap (λ i. slice_set m.charges.items i (y + n)) here ∙ ap (λ v. slice_set m.charges.items b.0 (v + n)) same ∙ ap (λ cs. slice_set cs b.0 (slice_index_or cs b.0 0 + n)) k.each;
      count = length-set m.charges.items place (y + n) ∙ k.count;
      few = k.few;
      small = record { within = k.small.within; own = k.small.own; each = still_small m.charges.items place (y + n) k.small.each inside (omega (arith, less, same)) };
      levels = k.levels;
      most = k.most;
      begins = k.begins;
      ends = k.ends;
    }
