use Rattle.std.proofs.Common.{[], sym, subst}
use Rattle.run_moves.specs.declared.running.Running.{Running}
use Rattle.run_leaves.specs.Leaving.{WritesOn}
use Rattle.run_leaves.proofs.Aborting.{none_held}
use Rattle.run_leaves.proofs.Writing.{as_long, longer}
use Rattle.run_leaves.proofs.aborts.abort_held.Goals as goal

pub aborts-init : goal.aborts-init
aborts-init g c = (c.requires, as_long c.args.run.now)

pub aborts-preserved : goal.aborts-preserved
aborts-preserved g c =
    let one = c.aborts-test.ensures.one in
    (one.aborting, longer c.args.run.now c.aborts.run c.abort_one.new.run c.aborts.invariant.1 one.longer)

pub returns : goal.returns
returns g c =
    let done = c.aborts-test.ensures in
    subst (λ (r : Running). WritesOn g.c [] c.args.run.now r) (sym done.stays) (none_held g.c c.args.a c.args.run.now c.aborts.run c.aborts.invariant.0 c.aborts.invariant.1 done.none)
