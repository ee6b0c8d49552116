use Rattle.run_calls.proofs.moves.write_call.Given as goal

abbrev pub ghost-call : goal.ghost-call
ghost-call g a = g.o
