use Rattle.run_moves.proofs.running.Running.complete.Given as goal

abbrev pub ghost-packet_driver : goal.ghost-packet_driver
ghost-packet_driver g a = g.o.state

abbrev pub ghost-speak : goal.ghost-speak
ghost-speak g a = g.o.state

abbrev pub ghost-write : goal.ghost-write
ghost-write g a = g.o
