use Rattle.dpc_timer.proofs.Queue.{turns_of_map}
use Rattle.dpc_timer.proofs.timer_queue.TimerQueue.turns.Goals as goal

pub returns : goal.returns
returns c = turns_of_map c.self.inside.timers c.self.inside.turns.items c.args.self.now c.self.view_is c.self.invariant
