use Rattle.std.proofs.Common.{ℕ, Result, ap, ◌∙◌, subst, refl, arith}
use Rattle.std.specs.Prelude.{slice_get}
use Rattle.nd_base.specs.declared.numbers.Breach.{Breach}
use Rattle.log_fields.specs.declared.field_values.Handler.{Handler}
use Rattle.call_log.specs.declared.entry.Entry.TheVariants as entries
use Rattle.owner_machine.specs.State.{Owner}
use Rattle.legal_run.specs.State.{adapter_in}
use Rattle.handler_leaves.specs.Leaves.{status_of}
use Rattle.run_moves.specs.Runs.{LeavesTo}
use Rattle.run_stops.specs.Standing.{point_of, state_of}
use Rattle.run_leaves.proofs.Returning.{breached, drawing, may_leave, stopped_by, written_by}
use Rattle.run_leaves.proofs.Writing.{Laws}
use Rattle.run_leaves.proofs.leaves.leave_judged.Goals as goal

pub leave-requires : goal.leave-requires
leave-requires g c =
    let q = c.requires in
    let room = q.1.1.1.1.1 in
    (q.0.settled.runs, (may_leave c.contexts_are_ready.ensures c.periods_are_short.ensures g.c c.args.x c.args.run.now q.0 q.1.1.0, (q.1.1.1.0, omega (arith, room))))

pub stop_for-requires : goal.stop_for-requires
stop_for-requires g c =
    let q = c.requires in
    let room = q.1.1.1.1.1 in
    let left = subst (λ (r : Result (Handler × ℕ) Breach). LeavesTo (point_of g.c c.args.run.now) c.args.x c.args.run.now c.leave.new.self r) c.in-Err.is c.leave.ensures in
    let is = c.adapter_of-adapter.ensures ∙ ap (λ (o : Owner). adapter_in (slice_get o.contexts c.args.x.0)) q.0.settled.runs.kept.owner in
    let b = breached c.moves_add.ensures c.adapters_are_given.ensures c.stops_may_stand.ensures g.c c.args.x c.in-Err.rule c.adapter_of-adapter.result c.args.run.now c.leave.new.self q.0.settled is (omega (arith, room)) left in
    let few = q.1.0.adapters in
    (b.runs, (b.due, (b.silent, (b.fed, (b.range, (refl, (omega (arith, few), (q.1.0.drivers, b.room))))))))

pub returns-in-Err : goal.returns-in-Err
returns-in-Err g c =
    let left = subst (λ (r : Result (Handler × ℕ) Breach). LeavesTo (point_of g.c c.args.run.now) c.args.x c.args.run.now c.leave.new.self r) c.in-Err.is c.leave.ensures in
    stopped_by c.moves_add.ensures g.c (entries.Leave c.args.x (status_of (state_of g.c c.args.run.now) c.args.x)) c.args.run.now c.leave.new.self c.stop_for.new.run left.grows c.stop_for.ensures

pub write_verdicts-requires : goal.write_verdicts-requires
write_verdicts-requires g c =
    let q = c.requires in
    let laws : Laws = record { moves = c.moves_add.ensures; runs = c.run_laws.ensures; rooms = c.rooms_stay.ensures } in
    let left = subst (λ (r : Result (Handler × ℕ) Breach). LeavesTo (point_of g.c c.args.run.now) c.args.x c.args.run.now c.leave.new.self r) c.in-Ok.is c.leave.ensures in
    drawing laws c.adapters_are_given.ensures c.stops_may_stand.ensures g.c c.args.x c.args.verdicts.items c.args.run.now c.leave.new.self q.0.settled q.1.1.1.1.0 q.1.1.1.1.1 left.0

pub returns-in-Ok : goal.returns-in-Ok
returns-in-Ok g c =
    let left = subst (λ (r : Result (Handler × ℕ) Breach). LeavesTo (point_of g.c c.args.run.now) c.args.x c.args.run.now c.leave.new.self r) c.in-Ok.is c.leave.ensures in
    written_by c.moves_add.ensures g.c (entries.Leave c.args.x (status_of (state_of g.c c.args.run.now) c.args.x)) c.args.run.now c.leave.new.self c.write_verdicts.new.run c.write_verdicts.result left.0.grows c.write_verdicts.ensures
