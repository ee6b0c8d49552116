use Rattle.run_moves.proofs.running.Running.note.Given as goal

abbrev pub ghost-write : goal.ghost-write
ghost-write g a = g.o
