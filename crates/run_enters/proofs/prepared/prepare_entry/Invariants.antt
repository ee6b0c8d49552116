use Rattle.run_enters.proofs.prepared.prepare_entry.Given as goal

abbrev pub ghost-entering : goal.ghost-entering
ghost-entering g a = g.o
