use Rattle.miniport.proofs.steps.fault.Given as goal

abbrev pub ghost-write : goal.ghost-write
ghost-write g a = g.o
