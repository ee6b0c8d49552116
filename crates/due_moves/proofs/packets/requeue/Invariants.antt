use Rattle.due_moves.proofs.packets.requeue.Given as goal

abbrev pub ghost-write : goal.ghost-write
ghost-write g a = g.o
