use Rattle.run_commands.proofs.moves.write_send.Given as goal

abbrev pub ghost-speak : goal.ghost-speak
ghost-speak g a = record g.o.state { packets = a.self.now.packets.items }
