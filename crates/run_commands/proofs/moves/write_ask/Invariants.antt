use Rattle.run_commands.proofs.moves.write_ask.Given as goal

abbrev pub ghost-speak : goal.ghost-speak
ghost-speak g a = g.o.state
