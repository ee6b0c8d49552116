use Rattle.run_commands.proofs.moves.write_return.Given as goal

abbrev pub ghost-write : goal.ghost-write
ghost-write g a = g.o

abbrev pub ghost-speak : goal.ghost-speak
ghost-speak g a = g.o.state
