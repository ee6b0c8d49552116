use Rattle.run_moves.proofs.running.Running.stop.Given as goal

abbrev pub ghost-stop : goal.ghost-stop
ghost-stop g a = g.o

abbrev pub ghost-tell_bound : goal.ghost-tell_bound
ghost-tell_bound g a = g.o.state

abbrev pub ghost-write : goal.ghost-write
ghost-write g a = g.o
