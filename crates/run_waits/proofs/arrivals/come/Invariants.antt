use Rattle.run_waits.proofs.arrivals.come.Given as goal

abbrev pub ghost-write : goal.ghost-write
ghost-write g a = g.o
