-- A turn is a move of the run.
use Rattle.std.proofs.Common.{◌≡◌, ℕ, ◌+◌, List, [], ◌∷◌, ◌++◌, Option, Some, None, Result, Ok, Err, false, inl, inr, sym, subst}
use Rattle.nd_base.specs.declared.numbers.Breach.{Breach}
use Rattle.log_fields.specs.declared.field_values.Handler.{Handler}
use Rattle.handler_entries.specs.declared.enters.Entering.{Entering}
use Rattle.handler_entries.specs.Entries.{entry_of}
use Rattle.handler_leaves.specs.Leaves.{Leaves}
use Rattle.legal_run.specs.VerdictLaws.{is_send}
use Rattle.nd_base.specs.declared.numbers.CtxNo.{CtxNo}
use Rattle.ia32_step.specs.declared.Stepped.{Stepped}
use Rattle.call_log.specs.declared.entry.Entry.{Entry}
use Rattle.call_log.specs.declared.entry.Entry.TheVariants as entries
use Rattle.call_log.specs.Logs.{State as LogState}
use Rattle.guest_world.specs.declared.world.World.{World}
use Rattle.owner_machine.specs.State.{Owner}
use Rattle.legal_run.specs.Laws.{RunLaws}
use Rattle.legal_run.specs.After.{after}
use Rattle.legal_run.specs.Run.{Reaches}
use Rattle.miniport_state.specs.Seen.{Point, IsAt, behind}
use Rattle.miniport_state.specs.declared.adapters.Adapters.{Adapters}
use Rattle.miniport.specs.Steps.{IsBehind, Turns}
use Rattle.run_course.specs.Shown.{Shows}
use Rattle.run_moves.specs.declared.running.Running.{Running}
use Rattle.run_moves.specs.Runs.{IsRun, Grows, TurnsTo, LeavesTo, expirations}
use Rattle.run_moves.proofs.Going.{goes}
use Rattle.run_moves.proofs.Courses as courses

pub grows : RunLaws → (o : Point) (e : Entry) (before : Running) (m : Adapters) (book : Owner) (w : World) (log : LogState) → IsRun o before
    → IsBehind o e m book w before.log log → Shows (after o.inputs o.state e) before.course
    → Grows o e before (record { adapters = m; book = book; world = w; log = log; course = before.course })
grows laws o e before m book w log run step shown = record {
  run = record {
    reaches = subst (λ (es : List Entry). Reaches o.inputs es (after o.inputs o.state e)) (sym step.logs.written) (goes laws o.inputs o.state e before.log.entries run.reaches step.logs.meets);
    kept = step.shown;
    shown = shown;
  };
  written = step.logs.written;
  spare = step.logs.spare;
}

pub turned : RunLaws → (o : Point) (x : CtxNo) (before : Running) (m : Adapters) (book : Owner) (w : World) (log : LogState) (result : Option Stepped) → IsRun o before
    → Turns o x m book w before.log log result → TurnsTo o x before (record { adapters = m; book = book; world = w; log = log; course = before.course }) result
turned laws o x before m book w log None run (n, spent) =
    (n, record { grows = grows laws o (entries.Turn x n) before m book w log run spent.step (courses.turn o.inputs o.state x n before.course run.shown); spent = spent.spent })
turned laws o x before m book w log (Some last) run (inl still) =
    inl (record {
      run = record {
        reaches = subst (λ (l : LogState). Reaches o.inputs l.entries o.state) (sym still.silent) run.reaches;
        kept = still.shown;
        shown = run.shown;
      };
      silent = still.silent;
      ends = still.ends;
      next = still.next;
    })
turned laws o x before m book w log (Some last) run (inr (n, on)) =
    inr (n, record { grows = grows laws o (entries.Turn x n) before m book w log run on.step (courses.turn o.inputs o.state x n before.course run.shown); unspent = on.unspent; next = on.next })

pub left : RunLaws → (o : Point) (x : CtxNo) (before : Running) (m : Adapters) (book : Owner) (w : World) (log : LogState) (result : Result (Handler × ℕ) Breach) → IsRun o before
    → Leaves o x m book w before.log log result → LeavesTo o x before (record { adapters = m; book = book; world = w; log = log; course = before.course }) result
left laws o x before m book w log (Ok done) run h =
    (record { grows = grows laws o _ before m book w log run h.0.step (courses.leave o.inputs o.state x _ before.course run.shown); breaks = h.0.breaks }, h.1)
left laws o x before m book w log (Err rule) run h =
    record { grows = grows laws o _ before m book w log run h.step (courses.leave o.inputs o.state x _ before.course run.shown); breaks = h.breaks }

pub entered : RunLaws → (o : Point) (x : CtxNo) (e : Entering) (before : Running) (m : Adapters) (book : Owner) (w : World) (log : LogState) → IsRun o before
    → is_send e.handler ≡ false → IsBehind o (entry_of x e) m book w before.log log
    → Grows o (entry_of x e) before (record { adapters = m; book = book; world = w; log = log; course = record before.course { expired = expirations before.course.expired e.handler } })
entered laws o x e before m book w log run none step = record {
  run = record {
    reaches = subst (λ (es : List Entry). Reaches o.inputs es (after o.inputs o.state (entry_of x e))) (sym step.logs.written) (goes laws o.inputs o.state (entry_of x e) before.log.entries run.reaches step.logs.meets);
    kept = step.shown;
    shown = courses.enter o.inputs o.state e.adapter x e.handler e.words e.writes before.course none run.shown;
  };
  written = step.logs.written;
  spare = step.logs.spare;
}
