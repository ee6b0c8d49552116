use Rattle.miniport.proofs.steps.call.Given as goal

abbrev pub ghost-write : goal.ghost-write
ghost-write g a = g.o
