use Rattle.entry_session.specs.Session.{going_of}
use Rattle.entry_session.proofs.session.Session.go_on.Given as goal

abbrev pub ghost-turn : goal.ghost-turn
ghost-turn g a = g.setting

abbrev pub ghost-leave : goal.ghost-leave
ghost-leave g a = g.setting

abbrev pub ghost-call : goal.ghost-call
ghost-call g a = record { setting = g.setting; going = going_of a.self.now }

abbrev pub ghost-fault : goal.ghost-fault
ghost-fault g a = g.setting
