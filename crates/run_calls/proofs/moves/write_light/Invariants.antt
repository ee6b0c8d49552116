use Rattle.run_calls.proofs.moves.write_light.Given as goal

abbrev pub ghost-tell : goal.ghost-tell
ghost-tell g a = g.o.state

abbrev pub ghost-write : goal.ghost-write
ghost-write g a = g.o
