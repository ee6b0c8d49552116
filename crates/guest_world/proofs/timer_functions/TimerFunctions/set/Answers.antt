use Rattle.nd_base.specs.KeptMap.{kept-insert}
use Rattle.guest_world.proofs.timer_functions.TimerFunctions.set.Goals as goal
use Rattle.guest_world.proofs.timer_functions.TimerFunctions.set.Goals.{in-Ok, in-Err}

pub returns-clause-ok : goal.returns-clause-ok
returns-clause-ok c =
    elim c.match-insert.branch [
      | in-Ok w ↦ let e = kept-insert c.self.inside.given c.insert.new.self c.args.timer.0 c.args.function (rw w.in-Ok.is at c.insert.ensures.updates) in rw (w.result-is, ← c.self.view_is) e
      | in-Err w ↦ rw w.result-is tt
    ]
