use Rattle.std.proofs.Common.{Result, sym, subst}
use Rattle.std.proofs.lemmas.Result.{err_from_is_err_and}
use Rattle.nd_base.specs.declared.OutOfMemory.{OutOfMemory}
use Rattle.call_log.specs.declared.entry.Entry.TheVariants as entries
use Rattle.run_stops.specs.Standing.{SettlesByOr}
use Rattle.run_commands.proofs.Cancels.{cancelling}
use Rattle.run_commands.proofs.Settling.{ends_behind, lost}
use Rattle.run_commands.proofs.packets.cancel_all.Goals as goal

pub returns-in_err-write_cancel : goal.returns-in_err-write_cancel
returns-in_err-write_cancel g c =
    let p = err_from_is_err_and c.from_residual.result c.from_residual.ensures.1 in
    subst (λ (result : Result (Unit {0}) OutOfMemory). SettlesByOr g.c (entries.Cancel c.args.driver c.args.id) c.args.run.now c.write_cancel.new.run result) (sym p.1)
    (lost g.c c.args.run.now c.write_cancel.new.run c.requires.0 c.in_err-write_cancel.ensures.0 c.in_err-write_cancel.ensures.1)

pub abort_queued-requires : goal.abort_queued-requires
abort_queued-requires g c =
    let e = entries.Cancel c.args.driver c.args.id in
    cancelling c.run_laws.ensures c.rooms_stay.ensures g.c c.args.driver c.args.id c.args.run.now c.write_cancel.new.run c.requires.0 c.requires.1.1
    (c.moves_add.ensures g.c e c.args.run.now c.write_cancel.new.run c.in_ok-write_cancel.ensures)

pub returns : goal.returns
returns g c =
    let e = entries.Cancel c.args.driver c.args.id in
    ends_behind g.c e c.args.run.now c.write_cancel.new.run c.abort_queued.new.run (c.moves_add.ensures g.c e c.args.run.now c.write_cancel.new.run c.in_ok-write_cancel.ensures) c.abort_queued.ensures
