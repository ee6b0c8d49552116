use Rattle.run_rests.proofs.resting.next_enter.Given as goal

abbrev pub ghost-next_owed : goal.ghost-next_owed
ghost-next_owed g a = g.o
