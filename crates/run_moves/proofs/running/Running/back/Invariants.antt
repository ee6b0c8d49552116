use Rattle.run_moves.proofs.running.Running.back.Given as goal

abbrev pub ghost-lent_at : goal.ghost-lent_at
ghost-lent_at g a = g.o.state

abbrev pub ghost-write : goal.ghost-write
ghost-write g a = g.o
