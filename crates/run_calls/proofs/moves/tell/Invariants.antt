use Rattle.run_calls.proofs.moves.tell.Given as goal

abbrev pub ghost-packet_driver : goal.ghost-packet_driver
ghost-packet_driver g a = g.s

abbrev pub ghost-speak : goal.ghost-speak
ghost-speak g a = g.s
