use Rattle.std.proofs.Common.{sym}
use Rattle.nd_base.specs.KeptMap.{kept-insert}
use Rattle.dpc_timer.proofs.Queue.{not_absent}
use Rattle.dpc_timer.proofs.timer_queue.TimerQueue.arm_again.Goals as goal

pub unreachable-requires : goal.unreachable-requires
unreachable-requires c =
    not_absent c.self.inside.timers c.args.self.now c.args.t.0 c.self.view_is c.requires (sym (rw c.in-Ok-None.field-0-is at c.in-Ok-None.ensures.old))

pub unreachable-requires-in-Err : goal.unreachable-requires-in-Err
unreachable-requires-in-Err c = not_absent c.self.inside.timers c.args.self.now c.args.t.0 c.self.view_is c.requires c.in-Err.ensures.absent

pub returns : goal.returns
returns c = rw (← c.self.view_is) (kept-insert c.self.inside.timers c.insert.new.self c.args.t.0 c.args.timer c.in-Ok-Some.ensures.updates)
