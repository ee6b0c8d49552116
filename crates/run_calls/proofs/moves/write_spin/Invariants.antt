use Rattle.run_calls.proofs.moves.write_spin.Given as goal

abbrev pub ghost-write : goal.ghost-write
ghost-write g a = g.o
