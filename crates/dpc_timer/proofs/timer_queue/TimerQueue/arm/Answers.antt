use Rattle.nd_base.specs.KeptMap.{kept-insert}
use Rattle.dpc_timer.proofs.timer_queue.TimerQueue.arm.Goals as goal

pub returns-in-Ok-None-clause-ok : goal.returns-in-Ok-None-clause-ok
returns-in-Ok-None-clause-ok c = rw (← c.self.view_is) (kept-insert c.self.inside.timers c.insert.new.self c.args.t.0 c.args.timer c.in-Ok-None.ensures.updates)

pub returns-in-Ok-Some-clause-ok : goal.returns-in-Ok-Some-clause-ok
returns-in-Ok-Some-clause-ok c = rw (← c.self.view_is) (kept-insert c.self.inside.timers c.insert.new.self c.args.t.0 c.args.timer c.in-Ok-Some.ensures.updates)
