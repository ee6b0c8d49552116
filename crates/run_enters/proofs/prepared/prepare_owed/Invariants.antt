use Rattle.run_enters.proofs.prepared.prepare_owed.Given as goal

abbrev pub ghost-entering_owed : goal.ghost-entering_owed
ghost-entering_owed g a = g.o
