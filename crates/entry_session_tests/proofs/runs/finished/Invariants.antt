use Rattle.entry_session_tests.proofs.runs.finished.Given as goal

abbrev pub ghost-finish : goal.ghost-finish
ghost-finish g a = g.setting
