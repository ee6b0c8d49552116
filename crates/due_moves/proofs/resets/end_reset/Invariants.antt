use Rattle.due_moves.proofs.resets.end_reset.Given as goal

abbrev pub ghost-write : goal.ghost-write
ghost-write g a = g.o
