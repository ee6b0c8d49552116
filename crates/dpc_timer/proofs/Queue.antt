-- The turns of the timers that a map keeps, and what the finite map has.
use Rattle.std.proofs.Common.{◌≡◌, ℕ, true, List, Option, None, Some, IsSome, is_some, IfSome, IfNone, sym, ap, subst, ◌∙◌, eqb-true, eq-eqb}
use Rattle.std.specs.Option.{option_map}
use Rattle.std.specs.BTreeMap as tree
use Rattle.std.specs.BTreeMap.{BTreeMap}
use Rattle.std.specs.Ordering.{nat_cmp}
use Rattle.std.proofs.lemmas.Bool.{false≢true}
use Rattle.std.specs.FinMap.{get}
use Rattle.dpc_timer.specs.declared.timer.Timer.{Timer}
use Rattle.dpc_timer.specs.declared.timer.Turn.{Turn}
use Rattle.dpc_timer.specs.ClockState.{Timers, IsArmedFor}
use Rattle.dpc_timer.specs.Turns.{has_turn, is_for, AreTurnsOf, timers_in}
use Rattle.nd_base.specs.KeptMap.{get-kept}

pub weaker : {A : Type 0} (r : Option A) (P Q : A → Type 0) → ((x : A) → P x → Q x) → IfSome r P → IfSome r Q
weaker None P Q f h = tt
weaker (Some x) P Q f h = f x h

pub weaker_none : {A : Type 0} (r : Option A) (P Q : Type 0) → (P → Q) → IfNone r P → IfNone r Q
weaker_none None P Q f h = f h
weaker_none (Some x) P Q f h = tt

pub is_armed : (kept : BTreeMap ℕ Timer) (value : Timers) (k : ℕ) → timers_in kept ≡ value → is_some (get value k) ≡ is_some (tree.get nat_cmp kept k)
is_armed kept value k view = ap (λ (v : Timers). is_some (get v k)) (sym view) ∙ ap is_some (get-kept kept k)

pub not_absent : (kept : BTreeMap ℕ Timer) (value : Timers) (k : ℕ) → timers_in kept ≡ value → IsSome (get value k) → tree.get nat_cmp kept k ≡ None → ⊥
not_absent kept value k view some none = false≢true (sym (is_armed kept value k view ∙ ap is_some none) ∙ some)

for_is : (o : Option Timer) (m : ℕ) → is_for o m ≡ true → option_map (λ timer. timer.moment) o ≡ Some m
for_is None m h = absurd (false≢true h)
for_is (Some timer) m h = ap Some (eqb-true timer.moment m h)

is_for_from : (o : Option Timer) (m : ℕ) → option_map (λ timer. timer.moment) o ≡ Some m → is_for o m ≡ true
is_for_from None m h = cc
is_for_from (Some timer) m h = eq-eqb timer.moment m (some_is timer.moment m h)
  where
    some_is : (a b : ℕ) → Some a ≡ Some b → a ≡ b
    some_is a b e = cc

pub armed_from_turn : (kept : BTreeMap ℕ Timer) (xs : List Turn) (value : Timers) (m t : ℕ) → timers_in kept ≡ value → AreTurnsOf (tree.get nat_cmp kept) xs → has_turn xs m t ≡ true → IsArmedFor value t m
armed_from_turn kept xs value m t view turns h =
    subst (λ (v : Timers). IsArmedFor v t m) view (ap (option_map (λ (timer : Timer). timer.moment)) (get-kept kept t) ∙ for_is (tree.get nat_cmp kept t) m (sym (turns.same m t) ∙ h))

pub turn_from_armed : (kept : BTreeMap ℕ Timer) (xs : List Turn) (value : Timers) (m t : ℕ) → timers_in kept ≡ value → AreTurnsOf (tree.get nat_cmp kept) xs → IsArmedFor value t m → has_turn xs m t ≡ true
turn_from_armed kept xs value m t view turns armed =
    turns.same m t
    ∙ is_for_from (tree.get nat_cmp kept t) m
    (ap (option_map (λ (timer : Timer). timer.moment)) (sym (get-kept kept t)) ∙ subst (λ (v : Timers). IsArmedFor v t m) (sym view) armed)

-- the turns are those of the finite map too
pub turns_of_map : (kept : BTreeMap ℕ Timer) (xs : List Turn) (value : Timers) → timers_in kept ≡ value → AreTurnsOf (tree.get nat_cmp kept) xs → AreTurnsOf (get value) xs
turns_of_map kept xs value view turns =
    subst (λ (v : Timers). AreTurnsOf (get v) xs) view (record { order = turns.order; same = λ m t. turns.same m t ∙ ap (λ o. is_for o m) (sym (get-kept kept t)) })
