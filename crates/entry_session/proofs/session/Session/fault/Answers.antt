use Rattle.std.proofs.Common.{refl}
use Rattle.entry_session.proofs.Leaving.{fault_logged}
use Rattle.entry_session.proofs.session.Session.fault.Goals as goal

pub returns : goal.returns
returns g c = fault_logged c.run_laws.ensures c.entry_laws.ensures g.setting c.args.self.now _ c.args.kind c.args.address c.requires.0.reached c.requires.1 c.in_ok-push.ensures.ok refl
