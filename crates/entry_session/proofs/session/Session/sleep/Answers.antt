use Rattle.std.proofs.Common.{◌≡◌, ◌∙◌, ap}
use Rattle.import_answers.specs.Outcomes.{resumed}
use Rattle.entry_session.proofs.Replying.{wakes}
use Rattle.entry_session.proofs.session.Session.sleep.Goals as goal

pub reply-requires : goal.reply-requires
reply-requires g c = (c.requires.0, wakes c.entry_laws.ensures g.sleeping c.args.self.now c.wait.new.self c.resumed.result c.in_ok-wait.ensures (c.resumed.ensures ∙ ap (λ n. resumed n 0) c.requires.1.0))
