use Rattle.std.proofs.Common.{◌≡◌, ap, sym, ◌∙◌, arith}
use Rattle.legal_run.specs.State.{clock}
use Rattle.miniport.specs.Waiting.{wake_at}
use Rattle.run_rests.proofs.Earliest.{least_none, one_more, all_of_them}
use Rattle.run_rests.proofs.wakes.next_wake.Goals as goal

pub loop-n-init : goal.loop-n-init
loop-n-init g c = sym least_none

pub loop-n-preserved : goal.loop-n-preserved
loop-n-preserved g c =
    one_more (clock g.o.state) c.now-now.result (wake_at g.o.state) c.loop-n.n c.loop-n.first c.wake_at.result c.to_come.result c.earlier-first.result
    (c.now-now.ensures ∙ ap (λ w. w.clock.clock) c.requires.world) c.loop-n.invariant c.wake_at.ensures c.to_come.ensures c.earlier-first.ensures

pub returns : goal.returns
returns g c =
    let end : c.loop-n.n ≡ 16 = omega arith in
    all_of_them (clock g.o.state) (wake_at g.o.state) c.loop-n.n 16 c.loop-n.first end c.loop-n.invariant
