use Rattle.std.proofs.Common.{◌≤◌, sym, ◌∙◌, arith}
use Rattle.miniport.specs.Waiting.{wake_at}
use Rattle.run_rests.proofs.Sleepers.{none_have_more, one_has, none_had}
use Rattle.run_rests.proofs.wakes.none_sleeps.Goals as goal

pub returns-then-is_some : goal.returns-then-is_some
returns-then-is_some g c = sym (c.loop-n.invariant ∙ one_has (wake_at g.o.state) c.loop-n.n 16 c.wake_at.result c.loop-n-test.true c.wake_at.ensures (sym c.is_some.ensures ∙ c.if-is_some.true))

pub loop-n-preserved : goal.loop-n-preserved
loop-n-preserved g c = c.loop-n.invariant ∙ none_have_more (wake_at g.o.state) c.loop-n.n 16 c.wake_at.result c.loop-n-test.true c.wake_at.ensures (sym c.is_some.ensures ∙ c.if-is_some.false)

pub returns : goal.returns
returns g c =
    let end : 16 ≤ c.loop-n.n = omega arith in
    sym (c.loop-n.invariant ∙ none_had (wake_at g.o.state) c.loop-n.n 16 end)
