use Rattle.due_moves.proofs.packets.complete.Given as goal

abbrev pub ghost-write : goal.ghost-write
ghost-write g a = g.o

abbrev pub ghost-speak : goal.ghost-speak
ghost-speak g a = g.o.state
