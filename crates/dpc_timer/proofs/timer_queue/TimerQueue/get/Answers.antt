use Rattle.nd_base.specs.KeptMap.{get-kept}
use Rattle.dpc_timer.proofs.timer_queue.TimerQueue.get.Goals as goal

pub returns : goal.returns
returns c = let e = get-kept c.self.inside.timers c.args.t.0 in cc
