use Rattle.adapter_timers.proofs.FirstTurn.{alarm_is}
use Rattle.adapter_timers.proofs.due.next_alarm.Goals as goal

pub returns : goal.returns
returns c = λ inputs s are. rw (c.moment_of.ensures, c.first_above.ensures, c.now-now.ensures) (alarm_is inputs s c.args.world.now c.args.living.now c.turns.result.now.items are c.turns.ensures)
