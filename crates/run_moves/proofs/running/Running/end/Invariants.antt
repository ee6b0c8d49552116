use Rattle.run_moves.proofs.running.Running.end.Given as goal

abbrev pub ghost-write : goal.ghost-write
ghost-write g a = g.o

abbrev pub ghost-end : goal.ghost-end
ghost-end g a = g.o.state
