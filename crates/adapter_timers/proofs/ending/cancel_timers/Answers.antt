use Rattle.std.proofs.Common.{ap, sym, ◌∙◌}
use Rattle.std.specs.FinMap as table
use Rattle.nd_base.specs.KeptMap.{entries-kept}
use Rattle.adapter_timers.specs.Cancels.{cancels}
use Rattle.adapter_timers.proofs.Cancelled.{next_cancelled, next_stays, none_left}
use Rattle.adapter_timers.proofs.ending.cancel_timers.Goals as goal

pub loop-timer-init : goal.loop-timer-init
loop-timer-init c =
    let gives = c.into_iter-timer-iterator.ensures.into_iter_gives in
    ap (λ ts. cancels c.args.a.0 ts c.args.clock.now) (gives.0 ∙ sym (entries-kept c.as_map-timer-items.result.now.entries gives.5) ∙ ap table.entries c.as_map-timer-items.ensures)

pub loop-timer-preserved-then-function-a : goal.loop-timer-preserved-then-function-a
loop-timer-preserved-then-function-a c =
    next_cancelled c.args.a.0 c.in-Some.timer.now c.in-Some.function.now c.next.new.self c.loop-timer.timer-iterator c.loop-timer.clock c.cancel.new.self _
    c.in-Some.ensures.steps c.if-function-a.true c.cancel.ensures.moved c.loop-timer.invariant

pub loop-timer-preserved : goal.loop-timer-preserved
loop-timer-preserved c =
    next_stays c.args.a.0 c.in-Some.timer.now c.in-Some.function.now c.next.new.self c.loop-timer.timer-iterator c.loop-timer.clock _
    c.in-Some.ensures.steps c.if-function-a.false c.loop-timer.invariant

pub returns : goal.returns
returns c = none_left c.args.a.0 c.loop-timer.timer-iterator c.loop-timer.clock _ c.in-None.ensures.steps.0 c.loop-timer.invariant
