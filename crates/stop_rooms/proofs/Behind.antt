-- The room behind an entry of a run.
use Rattle.std.proofs.Common.{◌≡◌, ℕ, ◌+◌, ◌≤◌, Bool, true, false, cond, ◌&&◌, List, Some, None, refl, ap, arith}
use Rattle.nd_base.specs.declared.numbers.CtxNo.{CtxNo}
use Rattle.call_log.specs.declared.entry.Entry.{Entry}
use Rattle.call_log.specs.declared.entry.Entry.TheVariants as entries
use Rattle.owner_machine.specs.State.{Owner}
use Rattle.owner_machine.specs.Legal.{said_nothing}
use Rattle.owner_machine.specs.Machine.{has_case, last_rule, rule_against, rule_of}
use Rattle.owner_machine.specs.Must.{is_served}
use Rattle.owner_book.specs.Stopping.{stop_room}
use Rattle.legal_run.specs.State.{Inputs, adapter_in}
use Rattle.legal_run.specs.Calls.{leaves}
use Rattle.legal_run.specs.After.{after, is_breaking, owner_left}
use Rattle.legal_run.specs.Run.{Meets, Run, now}
use Rattle.run_duties.specs.Laws.{StopLaws}
use Rattle.stop_rooms.specs.Rooms.{needs_room}
use Rattle.stop_rooms.proofs.Sums.{all_stay, fits}
use Rattle.stop_rooms.proofs.Fits.{OpenStand, fits_kind, more_kind}

-- an entry that may stand has a case
has : (o : Owner) (e : Entry) → rule_against o e ≡ None → has_case o e ≡ true
has o e h = by (is_served o e) (has_case o e) refl h
  where
    by : (a b : Bool) → has_case o e ≡ b → cond (a && b) (last_rule o e) (Some (rule_of e)) ≡ None → has_case o e ≡ true
    by true true is h = is
    by true false is h = absurd (cc)
    by false b is h = absurd (cc)

open_stand : StopLaws → (c : Inputs) (log : List Entry) → Run c log → OpenStand (now c log).owner
open_stand laws c log run x a h enter call is = laws.handlers c log x a run (ap adapter_in is)

left_room : (o : Owner) (x : CtxNo) (eax : ℕ) (broken : Bool) → OpenStand o → has_case o (entries.Leave x eax) ≡ true → stop_room (owner_left o (entries.Leave x eax) broken) ≤ stop_room o
left_room o x eax true stand h = fits o (said_nothing o) (all_stay o.adapters) (λ a. omega arith)
left_room o x eax false stand h = fits_kind o (entries.Leave x eax) stand h refl

pub stays_behind : StopLaws → (c : Inputs) (log : List Entry) (e : Entry) → Run c log → Meets c (now c log) e → needs_room e ≡ false → stop_room (after c (now c log) e).owner ≤ stop_room (now c log).owner
stays_behind laws c log (entries.Leave x eax) run meets plain = left_room (now c log).owner x eax (is_breaking (leaves c (now c log) x eax)) (open_stand laws c log run) (has (now c log).owner (entries.Leave x eax) meets.owner)
stays_behind laws c log e run meets plain = fits_kind (now c log).owner e (open_stand laws c log run) (has (now c log).owner e meets.owner) plain

pub grows_behind : StopLaws → (c : Inputs) (log : List Entry) (e : Entry) → Run c log → Meets c (now c log) e → stop_room (after c (now c log) e).owner ≤ stop_room (now c log).owner + 1
grows_behind laws c log (entries.Leave x eax) run meets = let less = stays_behind laws c log (entries.Leave x eax) run meets refl in omega (arith, less)
grows_behind laws c log e run meets = more_kind (now c log).owner e (open_stand laws c log run) (has (now c log).owner e meets.owner)
