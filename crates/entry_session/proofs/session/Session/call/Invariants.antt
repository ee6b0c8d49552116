use Rattle.legal_run.specs.Run.{call_words}
use Rattle.entry_run.specs.Alone.{shown}
use Rattle.entry_run.specs.Laws.{first, going, asking}
use Rattle.entry_session.proofs.session.Session.call.Given as goal

abbrev pub ghost-reply : goal.ghost-reply
ghost-reply g a =
    let import = a.row.now.import in
    record { setting = g.before.setting; going = g.before.going; import = import; kept = asking g.before.going import (call_words (shown (going g.before.going)) first import) }

abbrev pub ghost-sleep : goal.ghost-sleep
ghost-sleep g a =
    let import = a.row.now.import in
    record { setting = g.before.setting; import = import; words = call_words (shown (going g.before.going)) first import; wake = a.wake }
