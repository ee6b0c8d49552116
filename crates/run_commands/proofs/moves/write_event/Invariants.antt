use Rattle.run_commands.proofs.moves.write_event.Given as goal

abbrev pub ghost-speak : goal.ghost-speak
ghost-speak g a = g.o.state
