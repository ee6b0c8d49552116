use Rattle.miniport.proofs.steps.turn.Given as goal

abbrev pub ghost-used : goal.ghost-used
ghost-used g a = g.o

abbrev pub ghost-write : goal.ghost-write
ghost-write g a = g.o

abbrev pub ghost-charge : goal.ghost-charge
ghost-charge g a = record { inputs = g.o.inputs; state = record g.o.state { contexts = a.adapters.now.contexts } }
