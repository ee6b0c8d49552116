use Rattle.run_enters.proofs.alone.enter_alone.Given as goal

abbrev pub ghost-enter_ready : goal.ghost-enter_ready
ghost-enter_ready g a = g.c
