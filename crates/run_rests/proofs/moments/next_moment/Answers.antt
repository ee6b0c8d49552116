use Rattle.std.proofs.Common.{ap, sym, ◌∙◌}
use Rattle.run_rests.proofs.Together.{together}
use Rattle.run_rests.proofs.moments.next_moment.Goals as goal

pub returns : goal.returns
returns g c =
    together g.o.inputs g.o.state c.now.result c.next_stamp.result c.to_come-frame.result c.next_wake-wake.result c.next_check-check.result c.next_alarm-alarm.result
    c.earlier.result c.earlier-2.result c.earlier-3.result
    (sym c.is_barred.ensures ∙ c.if-is_barred.false)
    (c.now.ensures ∙ ap (λ w. w.clock.clock) c.requires.0.world)
    c.next_stamp.ensures c.to_come-frame.ensures c.next_wake-wake.ensures c.next_check-check.ensures c.next_alarm-alarm.ensures
    c.earlier.ensures c.earlier-2.ensures c.earlier-3.ensures
