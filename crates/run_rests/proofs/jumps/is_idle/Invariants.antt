use Rattle.run_rests.proofs.jumps.is_idle.Given as goal

abbrev pub ghost-rests : goal.ghost-rests
ghost-rests g a = g.o

abbrev pub ghost-all_wait : goal.ghost-all_wait
ghost-all_wait g a = g.o

abbrev pub ghost-next_moment : goal.ghost-next_moment
ghost-next_moment g a = g.o
