use Rattle.run_moves.proofs.running.Running.fault.Given as goal

abbrev pub ghost-fault : goal.ghost-fault
ghost-fault g a = g.o
