use Rattle.run_moves.proofs.running.Running.turn.Given as goal

abbrev pub ghost-turn : goal.ghost-turn
ghost-turn g a = g.o
