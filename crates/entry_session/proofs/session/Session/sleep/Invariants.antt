use Rattle.entry_run.specs.Laws.{sleeping}
use Rattle.entry_session.specs.Session.{going_of}
use Rattle.entry_session.proofs.session.Session.sleep.Given as goal

abbrev pub ghost-wait : goal.ghost-wait
ghost-wait g a = g.sleeping

abbrev pub ghost-reply : goal.ghost-reply
ghost-reply g a = record { setting = g.sleeping.setting; going = going_of a.self.now; import = g.sleeping.import; kept = sleeping (going_of a.self.now) g.sleeping.import g.sleeping.words g.sleeping.wake }
