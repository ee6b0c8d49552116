use Rattle.run_rests.proofs.waiting.waits.Given as goal

abbrev pub ghost-holds : goal.ghost-holds
ghost-holds g a = g.s
