-- A run that may be cut.
use Rattle.std.proofs.Common.{◌≡◌, true, ◌||◌, [], ◌++◌, Option, Some, None, refl, sym, ap, ◌∙◌, append_assoc}
use Rattle.std.proofs.lemmas.List.{append-nil}
use Rattle.std.specs.Option.{option_map, option_map_or, option_or}
use Rattle.nd_base.specs.declared.numbers.AdapterNo.{AdapterNo}
use Rattle.log_fields.specs.declared.field_values.Cause.TheVariants.{Memory}
use Rattle.call_log.specs.declared.entry.Entry.TheVariants as entries
use Rattle.owner_machine.specs.State.{Owner}
use Rattle.owner_machine.specs.Must.{is_served, may_break_in, owner_must, serves}
use Rattle.owner_machine.specs.Must as owners
use Rattle.legal_run.specs.State.{Inputs, State}
use Rattle.legal_run.specs.Must.{Due, Owes, must, next_must, taken_first}
use Rattle.run_moves.specs.declared.running.Running.{Running}
use Rattle.run_stops.specs.Standing.{IsCut, IsLost, IsSettled, Lengthens, state_of}
use Rattle.run_stops.specs.Stopping.{owner_of}

-- where nothing must stand the owner machine asks for nothing
silent : (s : State) → must s ≡ None → owner_must s.owner ≡ None
unfolding must
silent s h = by (taken_first s.next) (owner_must s.owner) h
  where
    by : (t : Option Due) (d : Option owners.Due) → option_or t (option_or (option_map Owes d) (next_must s.next)) ≡ None → d ≡ None
    by None None h = refl
    by None (Some d) h = absurd (cc)
    by (Some t) d h = absurd (cc)

-- and lets a stop in
pub lets_in : (o : Owner) (a : AdapterNo) → owner_must o ≡ None → is_served o (entries.Stop a Memory) ≡ true
lets_in o a none = ap (λ due. option_map_or (λ d. serves o d (entries.Stop a Memory) || may_break_in o.next (entries.Stop a Memory)) due true) none

pub may_be_cut : (c : Inputs) (r : Running) → IsSettled c r → IsCut c r
may_be_cut c r settled = record {
  reaches = settled.runs.reaches;
  owner = settled.runs.kept.owner;
  breaks = λ a. lets_in (owner_of c r) a (silent (state_of c r) settled.free);
  fed = settled.fed;
  room = settled.room;
  over = λ all. settled.free;
}

abbrev pub no_more : (r : Running) → Lengthens r r
no_more r = record { more = []; written = sym (append-nil r.log.entries) }

pub lost_as_it_is : (c : Inputs) (r : Running) → IsSettled c r → IsLost c r r
lost_as_it_is c r settled = record { cut = may_be_cut c r settled; longer = no_more r }

pub lost_later : (c : Inputs) (before m r : Running) → Lengthens before m → IsLost c m r → IsLost c before r
lost_later c before m r some lost = record {
  cut = lost.cut;
  longer = record {
    more = some.more ++ lost.longer.more;
    written = lost.longer.written ∙ ap (λ es. es ++ lost.longer.more) some.written ∙ append_assoc before.log.entries some.more lost.longer.more;
  };
}
