use Rattle.handler_leaves.proofs.leaves.leave.Given as goal

abbrev pub ghost-number_of : goal.ghost-number_of
ghost-number_of g a = g.o

abbrev pub ghost-broken : goal.ghost-broken
ghost-broken g a = g.o

abbrev pub ghost-write : goal.ghost-write
ghost-write g a = g.o

abbrev pub ghost-settle : goal.ghost-settle
ghost-settle g a = g.o
