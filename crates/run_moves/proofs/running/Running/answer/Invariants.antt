use Rattle.run_moves.proofs.running.Running.answer.Given as goal

abbrev pub ghost-request_driver : goal.ghost-request_driver
ghost-request_driver g a = g.o.state

abbrev pub ghost-speak : goal.ghost-speak
ghost-speak g a = g.o.state
