use Rattle.std.proofs.Common.{Result, sym, subst}
use Rattle.std.proofs.lemmas.Result.{err_from_is_err_and}
use Rattle.nd_base.specs.declared.OutOfMemory.{OutOfMemory}
use Rattle.call_log.specs.declared.entry.Entry.TheVariants as entries
use Rattle.run_stops.specs.Standing.{SettlesByOr}
use Rattle.run_commands.proofs.Cancels.{lost_with_room}
use Rattle.run_commands.proofs.packets.cancel.Goals as goal

pub returns-in_err-reserve_cancel : goal.returns-in_err-reserve_cancel
returns-in_err-reserve_cancel g c =
    let p = err_from_is_err_and c.from_residual.result c.from_residual.ensures.1 in
    subst (λ (result : Result (Unit {0}) OutOfMemory). SettlesByOr g.c (entries.Cancel c.args.driver c.args.id) c.args.run.now c.reserve_cancel.new.run result) (sym p.1)
    (lost_with_room g.c c.args.run.now c.reserve_cancel.new.run c.reserve_cancel.ensures.keeps c.requires.0)
