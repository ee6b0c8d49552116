use Rattle.run_moves.proofs.running.Running.reply.Given as goal

abbrev pub ghost-reply : goal.ghost-reply
ghost-reply g a = g.o
