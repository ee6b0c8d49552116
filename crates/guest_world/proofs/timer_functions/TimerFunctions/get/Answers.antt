use Rattle.nd_base.specs.KeptMap.{get-kept}
use Rattle.guest_world.proofs.timer_functions.TimerFunctions.get.Goals as goal

pub returns : goal.returns
returns c = let e = get-kept c.self.inside.given c.args.timer.0 in cc
