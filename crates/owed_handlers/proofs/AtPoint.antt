-- What is kept shows the state: so what comes first there is what comes first in the state.
use Rattle.std.proofs.Common.{◌≡◌, ℕ, suc, ◌+◌, Bool, true, false, ◌&&◌, ◌||◌, not, eqb, List, [], ◌∷◌, ◌++◌, length, Option, Some, is_some, refl, sym, ap, ◌∙◌, arith}
use Rattle.std.specs.List.{list_all, range_with_len}
use Rattle.guest_world.specs.declared.world.World.{World}
use Rattle.owner_machine.specs.State.{Owner, phase_is, is_stopped}
use Rattle.owner_machine.specs.Handlers.{is_none as is_empty}
use Rattle.legal_run.specs.State.{Inputs, State, Context, Entrance, Progress, numbers}
use Rattle.legal_run.specs.Owed.{first, was_not_entered}
use Rattle.miniport_state.specs.declared.adapters.Adapters.{Adapters}
use Rattle.miniport_state.specs.Views.{entrance_of}
use Rattle.miniport_state.specs.Seen.{Point, IsAt}
use Rattle.owed_handlers.specs.declared.choice.Owed.{Owed}
use Rattle.owed_handlers.specs.declared.choice.Owed.TheVariants as owed
use Rattle.owed_handlers.specs.Kept.{given_end, state_by, inputs_of, state_of}
use Rattle.owed_handlers.specs.Order.{at_once, in_turn, owed_by, entry_if, all_owed, first_owed}
use Rattle.owed_handlers.proofs.Found.{urgent_first, entry_first, rest_first}

-- what is owed, by the parts that it is owed by, the adapters' numbers, and whether there is none
abbrev pub owed_parts : Bool → Owner → World → List Context → Entrance → List Progress → List ℕ → Bool → List Owed
owed_parts shuts_down owner world contexts entrance adapters ns none =
    owed_by (given_end shuts_down) (state_by owner world contexts entrance adapters) at_once ns
    ++ (entry_if (was_not_entered entrance && (none || not (list_all (phase_is is_stopped owner) ns)))
    ++ owed_by (given_end shuts_down) (state_by owner world contexts entrance adapters) in_turn ns)

in_parts : (c : Inputs) (s : State) → all_owed c s ≡ owed_parts c.shuts_down s.owner s.world s.contexts s.entrance s.adapters (numbers 0 c.adapters) (is_empty c.adapters)
in_parts c s = refl

pub numbers_are : {A : Type 0} (n : ℕ) (xs : List A) → numbers n xs ≡ range_with_len n (length xs)
numbers_are n [] = refl
numbers_are n (x ∷ xs) = ap (λ ns. n ∷ ns) (numbers_are (suc n) xs ∙ ap (λ k. range_with_len k (length xs)) (one_more n))
  where
    one_more : (n : ℕ) → suc n ≡ n + 1
    one_more n = omega arith

none_is : {A : Type 0} (xs : List A) → is_empty xs ≡ eqb (length xs) 0
none_is [] = refl
none_is (x ∷ xs) = grind arith

pub owed_at : (o : Point) (m : Adapters) (book : Owner) (w : World) → IsAt o m book w → first_owed o.inputs o.state ≡ first (owed_parts m.shuts_down book w m.contexts (entrance_of m.entrance) m.progress.items (range_with_len 0 (length m.charges.items)) (eqb (length m.charges.items) 0))
owed_at o m book w at =
    let k = at.keeps in
    let count : length o.inputs.adapters ≡ length m.charges.items = sym k.count in
    let ns : numbers 0 o.inputs.adapters ≡ range_with_len 0 (length m.charges.items) = numbers_are 0 o.inputs.adapters ∙ ap (range_with_len 0) count in
    let none : is_empty o.inputs.adapters ≡ eqb (length m.charges.items) 0 = none_is o.inputs.adapters ∙ ap (λ n. eqb n 0) count in
    ap first (in_parts o.inputs o.state)
    ∙ (λ i. first (owed_parts (sym k.ends i) (sym at.owner i) (sym at.world i) (sym k.rows i) (sym k.entry i) (sym k.come i) (ns i) (none i)))

abbrev numbers_of : Adapters → List ℕ
numbers_of m = range_with_len 0 (length m.charges.items)

abbrev owes : Adapters → Owner → Bool
owes m book = was_not_entered (entrance_of m.entrance) && (eqb (length m.charges.items) 0 || not (list_all (phase_is is_stopped book) (numbers_of m)))

pub urgent_at : (o : Point) (m : Adapters) (book : Owner) (w : World) (r : Option Owed) → IsAt o m book w → r ≡ first (owed_by (inputs_of m) (state_of m book w) at_once (numbers_of m)) → is_some r ≡ true → r ≡ first_owed o.inputs o.state
urgent_at o m book w r at urgent some =
    urgent_first (owed_by (inputs_of m) (state_of m book w) at_once (numbers_of m)) (entry_if (owes m book) ++ owed_by (inputs_of m) (state_of m book w) in_turn (numbers_of m)) r urgent some
    ∙ sym (owed_at o m book w at)

pub entry_at : (o : Point) (m : Adapters) (book : Owner) (w : World) (r : Option Owed) → IsAt o m book w → r ≡ first (owed_by (inputs_of m) (state_of m book w) at_once (numbers_of m)) → is_some r ≡ false → owes m book ≡ true → Some owed.Entry ≡ first_owed o.inputs o.state
entry_at o m book w r at urgent none entry =
    entry_first (owed_by (inputs_of m) (state_of m book w) at_once (numbers_of m)) (owed_by (inputs_of m) (state_of m book w) in_turn (numbers_of m)) r (owes m book) urgent none entry
    ∙ sym (owed_at o m book w at)

pub rest_at : (o : Point) (m : Adapters) (book : Owner) (w : World) (r q : Option Owed) → IsAt o m book w → r ≡ first (owed_by (inputs_of m) (state_of m book w) at_once (numbers_of m)) → is_some r ≡ false → owes m book ≡ false → q ≡ first (owed_by (inputs_of m) (state_of m book w) in_turn (numbers_of m)) → q ≡ first_owed o.inputs o.state
rest_at o m book w r q at urgent none entry others =
    rest_first (owed_by (inputs_of m) (state_of m book w) at_once (numbers_of m)) (owed_by (inputs_of m) (state_of m book w) in_turn (numbers_of m)) r q (owes m book) urgent none entry others
    ∙ sym (owed_at o m book w at)
