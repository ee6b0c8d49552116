use Rattle.run_rests.proofs.resting.some_enters.Given as goal

abbrev pub ghost-next_enter : goal.ghost-next_enter
ghost-next_enter g a = g.o
