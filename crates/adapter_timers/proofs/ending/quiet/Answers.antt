use Rattle.adapter_timers.proofs.Cancelled.{quieted_is}
use Rattle.adapter_timers.proofs.ending.quiet.Goals as goal

pub returns : goal.returns
returns c = λ s. rw (c.take_dpc.ensures.moved, c.cancel_timers.ensures) (quieted_is s c.args.world.now c.args.a.0)
