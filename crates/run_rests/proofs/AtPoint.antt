-- What is kept shows the state.
use Rattle.std.proofs.Common.{◌≡◌, ℕ, Bool, true, false, not, cond, eqb, [], length, Option, None, sym, ap, ◌∙◌}
use Rattle.std.specs.Option.{option_map_or}
use Rattle.std.specs.List.{filter_map, range_with_len}
use Rattle.log_fields.specs.declared.field_values.Handler.{Handler}
use Rattle.log_fields.specs.declared.field_values.Handler.TheVariants as handler
use Rattle.guest_world.specs.declared.world.World.{World}
use Rattle.import_answers.specs.Registration.{handler_of}
use Rattle.legal_run.specs.State.{Inputs, State, clock, has_handler, adapters_of}
use Rattle.legal_run.specs.Owed.{check_of, checks, least}
use Rattle.miniport_state.specs.declared.adapters.Adapters.{Adapters}
use Rattle.miniport_state.specs.Seen.{Keeps}
use Rattle.run_rests.proofs.Counted.{numbers_are}
use Rattle.run_rests.proofs.Earliest.{above, earliest_of, least_none}

pub adapters_are : (c : Inputs) (s : State) (m : Adapters) → Keeps c s m → adapters_of c ≡ range_with_len 0 (length m.charges.items)
adapters_are c s m keeps = numbers_are 0 c.adapters ∙ ap (range_with_len 0) (sym keeps.count)

pub handler_at : (s : State) (w : World) (h : Handler) (has b : Bool) → w ≡ s.world → has ≡ not (eqb (option_map_or (λ m. handler_of m h) w.miniport 0) 0) → has ≡ b → has_handler s h ≡ b
handler_at s w h has b at is e = (λ i. not (eqb (option_map_or (λ m. handler_of m h) (sym at i).miniport 0) 0)) ∙ sym is ∙ e

pub no_checks : (c : Inputs) (s : State) → has_handler s handler.CheckForHang ≡ false → None ≡ least (above (clock s) (checks c s))
no_checks c s none = sym (ap (λ b. least (above (clock s) (cond b (filter_map (check_of s) (adapters_of c)) []))) none ∙ least_none)

pub checks_at : (c : Inputs) (s : State) (m : Adapters) (first : Option ℕ) → Keeps c s m → has_handler s handler.CheckForHang ≡ true → first ≡ earliest_of (clock s) (check_of s) (range_with_len 0 (length m.charges.items)) → first ≡ least (above (clock s) (checks c s))
checks_at c s m first keeps has is =
    is
    ∙ ap (earliest_of (clock s) (check_of s)) (sym (adapters_are c s m keeps))
    ∙ ap (λ b. least (above (clock s) (cond b (filter_map (check_of s) (adapters_of c)) []))) (sym has)
