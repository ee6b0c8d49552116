use Rattle.run_stops.proofs.tails.fail_request.Given as goal

abbrev pub ghost-answer : goal.ghost-answer
ghost-answer g a = g.o
