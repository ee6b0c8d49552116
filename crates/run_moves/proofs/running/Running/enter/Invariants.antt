use Rattle.run_moves.proofs.running.Running.enter.Given as goal

abbrev pub ghost-enter : goal.ghost-enter
ghost-enter g a = g.o
