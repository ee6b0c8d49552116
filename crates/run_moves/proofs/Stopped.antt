-- The stop of an adapter: its contexts' levels, its timers and its queued handler go, and its drivers are told.
use Rattle.std.proofs.Common.{◌≡◌, ℕ, ◌<◌, List, refl, sym, ap, ◌∙◌, subst, length}
use Rattle.std.specs.Prelude.{filter}
use Rattle.nd_base.specs.declared.numbers.AdapterNo.{AdapterNo}
use Rattle.log_fields.specs.declared.field_values.Cause.{Cause}
use Rattle.call_log.specs.declared.entry.Entry.{Entry}
use Rattle.call_log.specs.declared.entry.Entry.TheVariants as entries
use Rattle.call_log.specs.Logs.{State as LogState}
use Rattle.guest_world.specs.declared.world.World.{World}
use Rattle.owner_machine.specs.State.{Owner}
use Rattle.owner_machine.specs.Machine.{after as owners_after}
use Rattle.legal_run.specs.Laws.{RunLaws}
use Rattle.legal_run.specs.State.{Inputs, State, all_contexts}
use Rattle.legal_run.specs.After.{after, all_ended, all_spoke, bound_to, ends_context, quieted}
use Rattle.legal_run.specs.Run.{Reaches}
use Rattle.run_facts.specs.Facts.{CountsHold, Counts}
use Rattle.miniport_state.specs.Seen.{Point, IsAt, Logs}
use Rattle.run_course.specs.Shown.{Shows}
use Rattle.run_course.specs.declared.course.Course.{Course}
use Rattle.run_moves.specs.declared.running.Running.{Running}
use Rattle.run_moves.specs.Runs.{Grows, IsRun}
use Rattle.run_moves.proofs.Going.{goes}
use Rattle.run_moves.proofs.Told.{spoken_expired, spoken_keeps}

pub counts : CountsHold → (o : Point) (r : Running) → IsRun o r → Counts o.inputs o.state
counts laws o r run = laws o.inputs o.state (record { log = r.log.entries; reaches = run.reaches })

pub adapters_counted : CountsHold → (o : Point) (r : Running) → IsRun o r → length r.book.adapters ≡ length o.inputs.adapters
adapters_counted laws o r run = ap (λ (b : Owner). length b.adapters) run.kept.owner ∙ (counts laws o r run).rows

pub few_drivers : CountsHold → (o : Point) (r : Running) → IsRun o r → length o.inputs.drivers < 256 → length o.state.owner.drivers < 256
few_drivers laws o r run few = subst (λ n. n < 256) (sym (counts laws o r run).bindings) few

pub stopped : RunLaws → (o : Point) (a : AdapterNo) (why : Cause) (before : Running) (book : Owner) (w : World) (log : LogState) (k : Course) → IsRun o before
    → w ≡ all_ended (quieted o.state o.state.world a.0) (filter (ends_context o.inputs o.state a.0) all_contexts) → Shows (all_spoke o.state (bound_to o.state a.0)) k → Logs o (entries.Stop a why) before.log log
    → book ≡ owners_after o.state.owner (entries.Stop a why) → Grows o (entries.Stop a why) before (record before { book = book; world = w; log = log; course = k })
stopped laws o a why before book w log k run world shown logs is =
    let h = run.kept in
    let t = spoken_keeps o.state (bound_to o.state a.0) in
    record {
      run = record {
        reaches = subst (λ (es : List Entry). Reaches o.inputs es (after o.inputs o.state (entries.Stop a why))) (sym logs.written) (goes laws o.inputs o.state (entries.Stop a why) before.log.entries run.reaches logs.meets);
        kept = record {
          keeps = record {
            rows = h.keeps.rows ∙ sym t.contexts;
            sixteen = h.keeps.sixteen;
            entry = h.keeps.entry ∙ sym t.entrance;
            come = h.keeps.come ∙ sym t.adapters;
            own = h.keeps.own ∙ sym t.charged;
            each = h.keeps.each ∙ sym t.charges;
            count = h.keeps.count;
            few = h.keeps.few;
            small = h.keeps.small;
            levels = h.keeps.levels;
            most = h.keeps.most;
            begins = h.keeps.begins;
            ends = h.keeps.ends;
          };
          owner = is;
          world = world;
        };
        shown = record { hearings = shown.hearings; frames = shown.frames; loans = shown.loans; arrivals = shown.arrivals; expirations = shown.expirations ∙ spoken_expired o.state (bound_to o.state a.0) };
      };
      written = logs.written;
      spare = logs.spare;
    }
