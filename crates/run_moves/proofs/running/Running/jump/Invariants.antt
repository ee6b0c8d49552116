use Rattle.run_moves.proofs.running.Running.jump.Given as goal

abbrev pub ghost-write : goal.ghost-write
ghost-write g a = g.o
