use Rattle.run_moves.proofs.running.Running.leave.Given as goal

abbrev pub ghost-leave : goal.ghost-leave
ghost-leave g a = g.o
