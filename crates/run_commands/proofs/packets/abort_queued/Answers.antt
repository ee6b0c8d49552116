use Rattle.std.proofs.Common.{sym, subst}
use Rattle.run_moves.specs.declared.running.Running.{Running}
use Rattle.run_stops.specs.Standing.{Settles}
use Rattle.run_commands.proofs.Cancels.{ends, goes_on}
use Rattle.run_commands.proofs.packets.abort_queued.Goals as goal

pub aborts-preserved : goal.aborts-preserved
aborts-preserved g c = goes_on g.c c.args.driver c.args.id c.args.run.now c.aborts.run c.abort_one.new.run c.aborts.invariant c.aborts-test.ensures.one

pub returns : goal.returns
returns g c =
    let done = c.aborts-test.ensures in
    subst (λ (r : Running). Settles g.c c.args.run.now r) (sym done.stays) (ends g.c c.args.driver c.args.id c.args.run.now c.aborts.run c.aborts.invariant done.none)
