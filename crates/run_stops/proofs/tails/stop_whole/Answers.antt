use Rattle.std.proofs.Common.{sym, subst}
use Rattle.run_moves.specs.declared.running.Running.{Running}
use Rattle.run_stops.specs.Stopping.{StopsWhole}
use Rattle.run_stops.proofs.Endings.{ending_goes_on, ending_ends}
use Rattle.run_stops.proofs.tails.stop_whole.Goals as goal

pub endings-preserved : goal.endings-preserved
endings-preserved g c = ending_goes_on g.c c.args.a c.args.cause c.args.run.now c.endings.run c.end_one.new.run c.endings.invariant c.endings-test.ensures.one

pub returns : goal.returns
returns g c =
    let done = c.endings-test.ensures in
    subst (λ (r : Running). StopsWhole g.c c.args.a c.args.cause c.args.run.now r) (sym done.stays) (ending_ends c.stop_laws.ensures g.c c.args.a c.args.cause c.args.run.now c.endings.run c.endings.invariant done.none)
