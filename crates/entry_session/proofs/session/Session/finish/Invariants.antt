use Rattle.std.proofs.Common.{◌-◌}
use Rattle.entry_session.specs.Session.{IsRunning, Adds}
use Rattle.entry_session.proofs.session.Session.finish.Given as goal

abbrev pub ghost-go_on : goal.ghost-go_on
ghost-go_on g a = g.setting

abbrev pub invariant-loop-ending : goal.invariant-loop-ending
invariant-loop-ending g l = record { running : IsRunning g.setting l.self; added : Adds l.fn.self.log.entries l.self.log.entries }

abbrev pub decreases-loop-ending : goal.decreases-loop-ending
decreases-loop-ending g l = g.setting.budget - l.self.charged
