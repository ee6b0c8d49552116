use Rattle.run_moves.proofs.running.Running.wait.Given as goal

abbrev pub ghost-write : goal.ghost-write
ghost-write g a = g.o

abbrev pub ghost-wait : goal.ghost-wait
ghost-wait g a = g.o.state
