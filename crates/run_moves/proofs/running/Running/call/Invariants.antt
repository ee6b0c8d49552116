use Rattle.run_moves.proofs.running.Running.call.Given as goal

abbrev pub ghost-call : goal.ghost-call
ghost-call g a = g.o
