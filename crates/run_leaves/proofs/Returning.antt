-- A leave, and what it comes to.
use Rattle.std.proofs.Common.{◌≡◌, ℕ, ◌+◌, ◌≤◌, ◌<◌, Bool, true, false, not, List, [], ◌∷◌, ◌++◌, Option, Some, None, Result, Ok, Err, refl, sym, ap, ◌∙◌, subst, arith, append_assoc, length}
use Rattle.std.specs.Prelude.{filter, slice_get}
use Rattle.std.specs.List.{list_any}
use Rattle.std.specs.Option.{option_map, option_or}
use Rattle.std.specs.Result.{IsErr}
use Rattle.nd_base.specs.declared.OutOfMemory.{OutOfMemory}
use Rattle.nd_base.specs.declared.numbers.AdapterNo.{AdapterNo}
use Rattle.nd_base.specs.declared.numbers.Breach.{Breach}
use Rattle.nd_base.specs.declared.numbers.CtxNo.{CtxNo}
use Rattle.log_fields.specs.Fields.{HasRule}
use Rattle.log_fields.specs.declared.field_values.Cause.TheVariants as cause
use Rattle.call_log.specs.declared.entry.Entry.{Entry}
use Rattle.call_log.specs.declared.entry.Entry.TheVariants as entries
use Rattle.call_log.specs.Logs.{State as LogState}
use Rattle.guest_world.specs.declared.world.World.{World}
use Rattle.owner_machine.specs.declared.rows.Context.{Context}
use Rattle.owner_machine.specs.declared.rows.Context.TheVariants as kept
use Rattle.owner_machine.specs.State.{Owner, is_stopped, phase_is}
use Rattle.owner_machine.specs.Handlers.{behind_leave}
use Rattle.owner_machine.specs.Legal.{said_nothing}
use Rattle.owner_machine.specs.Machine as owners
use Rattle.owner_machine.specs.Must.{Due as OwnerDue, owner_must}
use Rattle.owner_book.specs.Stopping.{stop_room}
use Rattle.legal_run.specs.State.{Inputs, State, Stops, adapter_of, adapters_of, context_at}
use Rattle.legal_run.specs.Calls.{Drawn, Breaking, Draws, asks, leaves, leaves_even}
use Rattle.legal_run.specs.After.{adapters_stopped, is_breaking, leave_next, number_in, owner_left}
use Rattle.legal_run.specs.Must.{Due, Owes, must, next_must, taken_first}
use Rattle.legal_run.specs.Run.{is_memory_stop}
use Rattle.handler_leaves.specs.Leaves.{MayLeave, broken, status_of}
use Rattle.run_duties.specs.Laws.{StopLaws}
use Rattle.run_facts.specs.Facts.{AdaptersAreGiven, ContextsAreReady, IsOfRun, PeriodsAreShort}
use Rattle.run_moves.specs.Runs.{Grows, LeavesBy}
use Rattle.run_moves.specs.declared.running.Running.{Running}
use Rattle.run_stops.specs.Standing.{IsLost, IsSettled, MovesAdd, Runs, Settles, SettlesBy, SettlesByOr, point_of, state_of}
use Rattle.run_stops.specs.Stopping.{owner_of}
use Rattle.run_leaves.specs.Leaving.{IsWriting, MayFollow, Returns, SettlesOr, drawn_of, entries_of, is_quiet}
use Rattle.run_leaves.proofs.Drawing.{IsFit, fit_asks, fit_drawn}
use Rattle.run_leaves.proofs.Writing.{Laws, as_long, breaks_in, no_more, room_stays, silent_by, still_fed}

pub of_run : (c : Inputs) (r : Running) → Runs c r → IsOfRun c (state_of c r)
of_run c r runs = record { log = r.log.entries; reaches = runs.reaches }

-- ---- what a leave needs

pub may_leave : ContextsAreReady → PeriodsAreShort → (c : Inputs) (x : CtxNo) (r : Running) → Returns c x r → x.0 < 16 → MayLeave (point_of c r) x
may_leave ready short c x r returns number =
    let of = of_run c r returns.settled.runs in
    let is = ready.goes c (state_of c r) x of returns.going in
    record {
      goes = record { number = number; free = returns.settled.free; going = returns.going; works = is.works };
      slot = returns.at;
      opened = is.opened;
      read = returns.read;
      time =
          let period = short c (state_of c r) (number_in c (adapter_of (state_of c r) x.0)) of in
          let clock : r.world.clock.clock ≡ (state_of c r).world.clock.clock = ap (λ (w : World). w.clock.clock) returns.settled.runs.kept.world in
          let time = returns.time in
          omega (arith, period, clock, time);
    }

-- ---- the rule that it breaks, or what is drawn

rule_is : (d : Drawn) (rule : ℕ) → broken d ≡ Some rule → d ≡ Breaking rule
rule_is (Breaking other) rule h = let same : other ≡ rule = cc in ap Breaking same
rule_is (Draws es) rule h = absurd (cc)

unbroken : (even : Bool) (d : Drawn) → broken (asks even 7 d) ≡ None → asks even 7 d ≡ Draws (entries_of d)
unbroken true (Draws es) h = refl
unbroken true (Breaking rule) h = absurd (cc)
unbroken false d h = absurd (cc)

-- what is drawn may be written behind the leave
fit_leaves : AdaptersAreGiven → StopLaws → (c : Inputs) (s : State) (x : CtxNo) → IsOfRun c s → IsFit c (owners.after s.owner (entries.Leave x (status_of s x))) (leaves c s x (status_of s x))
fit_leaves given laws c s x of =
    fit_asks c _ (leaves_even s x) 7 _ (omega arith, omega arith) (λ even. fit_drawn given laws c s x (status_of s x) (context_at s x.0).subject of)

-- ---- behind a leave that breaks a rule

same_stops : (c : Inputs) (s t : State) (a : Option AdapterNo) → t.owner ≡ said_nothing s.owner → adapters_stopped c s a ≡ adapters_stopped c t a
same_stops c s t (Some a) owner = refl
same_stops c s t None owner = ap (λ (o : Owner). filter (λ a. not (phase_is is_stopped o a)) (adapters_of c)) (sym owner)

-- what stops need that a breach brings
pub record IsBreached (c : Inputs) (rule : Breach) (adapter : Option AdapterNo) (r : Running) : Type 0 where
  pub runs : Runs c r
  pub due : (state_of c r).next ≡ Stops (cause.Breach rule) (adapters_stopped c (state_of c r) adapter)
  pub silent : owner_must (owner_of c r) ≡ None
  pub fed : list_any is_memory_stop r.log.entries ≡ false
  pub range : HasRule (cause.Breach rule)
  pub room : stop_room (owner_of c r) ≤ r.log.spare

pub breached : MovesAdd → AdaptersAreGiven → StopLaws → (c : Inputs) (x : CtxNo) (rule : Breach) (adapter : Option AdapterNo) (before r : Running) → IsSettled c before → adapter ≡ adapter_of (state_of c before) x.0
    → stop_room (owner_of c before) + 1 ≤ before.log.spare → LeavesBy (point_of c before) x before r (Some rule.0) → IsBreached c rule adapter r
breached moves given laws c x rule adapter before r settled is room left =
    let s = state_of c before in
    let status = status_of s x in
    let e = entries.Leave x status in
    let added = moves c e before r left.grows in
    let breaks : leaves c s x status ≡ Breaking rule.0 = rule_is (leaves c s x status) rule.0 left.breaks in
    let owner : owner_of c r ≡ said_nothing s.owner = ap (λ (t : State). t.owner) added.state ∙ ap (λ d. owner_left s.owner e (is_breaking d)) breaks in
    let fit : IsFit c (owners.after s.owner e) (Breaking rule.0) = subst (IsFit c (owners.after s.owner e)) breaks (fit_leaves given laws c s x (of_run c before settled.runs)) in
    record {
      runs = added.runs;
      due = ap (λ (t : State). t.next) added.state ∙ ap (leave_next c s x) breaks ∙ ap (λ (a : Option AdapterNo). Stops (cause.Breach rule) (adapters_stopped c s a)) (sym is) ∙ ap (Stops (cause.Breach rule)) (same_stops c s (state_of c r) adapter owner);
      silent = ap owner_must owner;
      fed = ap (list_any is_memory_stop) added.written ∙ still_fed before.log.entries e settled.fed refl;
      range = fit;
      room = let spare = added.spare in let same : stop_room (owner_of c r) ≡ stop_room s.owner = ap stop_room owner in omega (arith, spare, same, room);
    }

-- ---- behind any other

left_quiet : (y : Option Context) → is_quiet (behind_leave y) ≡ true
left_quiet (Some (kept.Open (Some a) h enter call)) = refl
left_quiet (Some (kept.Open None h enter call)) = refl
left_quiet (Some kept.Free) = refl
left_quiet None = refl

pub drawing : Laws → AdaptersAreGiven → StopLaws → (c : Inputs) (x : CtxNo) (es : List Entry) (before r : Running) → IsSettled c before → es ≡ entries_of (drawn_of c (state_of c before) x)
    → stop_room (owner_of c before) + length es + 1 ≤ before.log.spare → LeavesBy (point_of c before) x before r None → IsWriting c es r
drawing all given laws c x es before r settled is room left =
    let s = state_of c before in
    let status = status_of s x in
    let e = entries.Leave x status in
    let added = all.moves c e before r left.grows in
    let draws : leaves c s x status ≡ Draws es = unbroken (leaves_even s x) (drawn_of c s x) left.breaks ∙ ap Draws (sym is) in
    let owner : owner_of c r ≡ owners.after s.owner e = ap (λ (t : State). t.owner) added.state ∙ ap (λ d. owner_left s.owner e (is_breaking d)) draws in
    let fit : MayFollow c (owners.after s.owner e) es = subst (IsFit c (owners.after s.owner e)) draws (fit_leaves given laws c s x (of_run c before settled.runs)) in
    record {
      runs = added.runs;
      next = ap (λ (t : State). t.next) added.state ∙ ap (leave_next c s x) draws;
      silent = silent_by (owner_of c r) es (ap (λ (o : Owner). is_quiet o.next) owner ∙ left_quiet (slice_get s.owner.contexts x.0));
      fed = ap (list_any is_memory_stop) added.written ∙ still_fed before.log.entries e settled.fed refl;
      room = room_stays all c e before r (length es) left.grows refl room;
      follow = subst (λ (o : Owner). MayFollow c o es) (sym owner) fit;
    }

-- ---- whole

pub stopped_by : MovesAdd → (c : Inputs) (e : Entry) (before m r : Running) → Grows (point_of c before) e before m → Settles c m r → SettlesBy c e before r
stopped_by moves c e before m r grown done =
    let added = moves c e before m grown in
    record {
      settled = done.settled;
      more = done.longer.more;
      written = done.longer.written ∙ ap (λ es. es ++ done.longer.more) added.written ∙ append_assoc before.log.entries (e ∷ []) done.longer.more;
    }

pub written_by : MovesAdd → (c : Inputs) (e : Entry) (before m r : Running) (result : Result (Unit {0}) OutOfMemory) → Grows (point_of c before) e before m → SettlesOr c m r result → SettlesByOr c e before r result
written_by moves c e before m r (Ok done) grown h = stopped_by moves c e before m r grown h
written_by moves c e before m r (Err lost) grown h =
    let added = moves c e before m grown in
    record {
      cut = h.cut;
      longer = record { more = e ∷ h.longer.more; written = h.longer.written ∙ ap (λ es. es ++ h.longer.more) added.written ∙ append_assoc before.log.entries (e ∷ []) h.longer.more };
    }

-- ---- before the leave

owner_silent : (s : State) → must s ≡ None → owner_must s.owner ≡ None
unfolding must
owner_silent s h = by (taken_first s.next) (owner_must s.owner) (next_must s.next) h
  where
    by : (t : Option Due) (d : Option OwnerDue) (n : Option Due) → option_or t (option_or (option_map Owes d) n) ≡ None → d ≡ None
    by None None n h = refl
    by None (Some d) n h = absurd (cc)
    by (Some t) d n h = absurd (cc)

-- memory was wanted where nothing must stand
pub lost : (c : Inputs) (r : Running) → IsSettled c r → IsLost c r r
lost c r settled = record {
  cut = record {
    reaches = settled.runs.reaches;
    owner = settled.runs.kept.owner;
    breaks = λ a. breaks_in (owner_of c r) (entries.Stop a cause.Memory) (owner_silent (state_of c r) settled.free);
    fed = settled.fed;
    room = settled.room;
    over = λ all. settled.free;
  };
  longer = as_long r;
}

-- the run with more room in its log
abbrev pub with_log : Running → LogState → Running
with_log r log = record r { log = log }

abbrev with_entries : Running → ℕ → List Entry → Running
with_entries r n es = with_log r (record { entries = es; spare = n })

wider : (c : Inputs) (r : Running) (log : LogState) → log.entries ≡ r.log.entries → r.log.spare ≤ log.spare → IsSettled c r → IsSettled c (with_log r log)
wider c r log same more settled =
    subst (λ (es : List Entry). IsSettled c (with_entries r log.spare es)) (sym same)
    (record {
      runs = record { reaches = settled.runs.reaches; kept = settled.runs.kept; shown = settled.runs.shown };
      free = settled.free;
      fed = settled.fed;
      room = let room = settled.room in omega (arith, room, more);
    })

pub lost_wider : (c : Inputs) (r : Running) (log : LogState) → log.entries ≡ r.log.entries → r.log.spare ≤ log.spare → IsSettled c r → IsLost c r (with_log r log)
lost_wider c r log same more settled = record {
  cut = (lost c (with_log r log) (wider c r log same more settled)).cut;
  longer = record { more = []; written = same ∙ no_more r.log.entries };
}

pub on_error : (c : Inputs) (e : Entry) (before r : Running) (result : Result (Unit {0}) OutOfMemory) → IsErr result → IsLost c before r → SettlesByOr c e before r result
on_error c e before r (Ok done) is gone = absurd (cc)
on_error c e before r (Err want) is gone = gone
