use Rattle.std.proofs.Common.{◌≤◌, sym, ◌∙◌, arith}
use Rattle.legal_run.specs.Owed.{can_run}
use Rattle.run_rests.proofs.Counted.{none_more, one_passes, none_passed}
use Rattle.run_rests.proofs.resting.some_can_run.Goals as goal

pub returns-then-can_run : goal.returns-then-can_run
returns-then-can_run g c = sym (c.loop-n.invariant ∙ one_passes (can_run g.o.state) c.loop-n.n 16 c.loop-n-test.true (sym c.can_run.ensures ∙ c.if-can_run.true))

pub loop-n-preserved : goal.loop-n-preserved
loop-n-preserved g c = c.loop-n.invariant ∙ none_more (can_run g.o.state) c.loop-n.n 16 c.loop-n-test.true (sym c.can_run.ensures ∙ c.if-can_run.false)

pub returns : goal.returns
returns g c =
    let end : 16 ≤ c.loop-n.n = omega arith in
    sym (c.loop-n.invariant ∙ none_passed (can_run g.o.state) c.loop-n.n 16 end)
