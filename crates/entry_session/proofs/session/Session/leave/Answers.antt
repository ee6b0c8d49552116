use Rattle.std.proofs.Common.{refl}
use Rattle.entry_session.proofs.Leaving.{left_evenly, left_unevenly}
use Rattle.entry_session.proofs.session.Session.leave.Goals as goal

pub returns-in-Ok : goal.returns-in-Ok
returns-in-Ok g c = left_evenly c.run_laws.ensures c.entry_laws.ensures g.setting c.args.self.now _ _ c.leave.new.self c.requires.0.reached c.requires.1 refl c.in_ok-push.ensures.ok refl c.in-Ok.ensures.moved

pub returns-in-Err : goal.returns-in-Err
returns-in-Err g c = left_unevenly c.run_laws.ensures c.entry_laws.ensures g.setting c.args.self.now _ _ c.in-Err.field-0 c.requires.0.reached c.requires.1 refl c.in_ok-push.ensures.ok refl c.in-Err.ensures.moved.0
