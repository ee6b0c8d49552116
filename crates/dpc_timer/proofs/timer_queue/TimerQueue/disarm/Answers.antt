use Rattle.std.proofs.Common.{sym, ap, ◌∙◌, is_some}
use Rattle.nd_base.specs.KeptMap.{kept-remove}
use Rattle.dpc_timer.proofs.Queue.{is_armed}
use Rattle.dpc_timer.proofs.timer_queue.TimerQueue.disarm.Goals as goal

pub returns-in-Some-clause-taken : goal.returns-in-Some-clause-taken
returns-in-Some-clause-taken c = rw (← c.self.view_is) (kept-remove c.self.inside.timers c.remove.new.self c.args.t.0 c.remove.ensures.updates)

pub returns-in-Some-clause-armed : goal.returns-in-Some-clause-armed
returns-in-Some-clause-armed c = ap is_some c.in-Some.ensures.value ∙ sym (is_armed c.self.inside.timers c.args.self.now c.args.t.0 c.self.view_is)

pub returns-in-None-clause-taken : goal.returns-in-None-clause-taken
returns-in-None-clause-taken c = rw (← c.self.view_is) (kept-remove c.self.inside.timers c.remove.new.self c.args.t.0 c.remove.ensures.updates)

pub returns-in-None-clause-armed : goal.returns-in-None-clause-armed
returns-in-None-clause-armed c = ap is_some c.in-None.ensures.value ∙ sym (is_armed c.self.inside.timers c.args.self.now c.args.t.0 c.self.view_is)
