-- What is kept tells which adapters live, so the next alarm is that of the state.
use Rattle.std.proofs.Common.{◌≡◌, ℕ, zero, suc, Bool, false, ◌&&◌, ltb, nat_lt, List, length, filter, replicate, slice_index_or, Option, refl, sym, ap, ◌∙◌, arith}
use Rattle.guest_world.specs.declared.world.World.{World}
use Rattle.owner_machine.specs.State.{Owner, phase_is}
use Rattle.legal_run.specs.State.{Inputs, State, clock, is_alive}
use Rattle.legal_run.specs.Owed.{alarms, least}
use Rattle.legal_run.specs.After.{with_world}
use Rattle.miniport_state.specs.declared.adapters.Adapters.{Adapters}
use Rattle.miniport_state.specs.Seen.{Point, IsAt}
use Rattle.adapter_timers.specs.Due.{AreLiving}

all_false : (n a : ℕ) → slice_index_or (replicate n false) a false ≡ false
all_false zero a = refl
all_false (suc n) zero = refl
all_false (suc n) (suc a) = all_false n a

none_below : (a : ℕ) (b : Bool) → false ≡ (ltb a 0 && b)
none_below a b = sym (ap (λ z. z && b) (not_below a))
  where
    not_below : (a : ℕ) → ltb a 0 ≡ false
    not_below a = grind arith

pub none_lives : (n a : ℕ) (b : Bool) → slice_index_or (replicate n false) a false ≡ (ltb a 0 && b)
none_lives n a b = all_false n a ∙ none_below a b

pub alarm_at : (o : Point) (m : Adapters) (book : Owner) (w : World) (living : List Bool) (count : ℕ) (r : Option ℕ) → IsAt o m book w → count ≡ length m.charges.items → ((a : ℕ) → slice_index_or living a false ≡ (nat_lt a count && phase_is is_alive book a)) → ((c : Inputs) (s : State) → AreLiving c s living → r ≡ least (filter (λ n. nat_lt w.clock.clock n) (alarms c (with_world s w)))) → r ≡ least (filter (λ n. nat_lt (clock o.state) n) (alarms o.inputs o.state))
alarm_at o m book w living count r at len are is =
    let n : count ≡ length o.inputs.adapters = len ∙ at.keeps.count in
    is o.inputs o.state (λ a. are a ∙ (λ i. nat_lt a (n i) && phase_is is_alive (at.owner i) a))
    ∙ (λ i. least (filter (λ k. nat_lt (at.world i).clock.clock k) (alarms o.inputs (with_world o.state (at.world i)))))
