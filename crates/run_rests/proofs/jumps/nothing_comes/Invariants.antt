use Rattle.run_rests.proofs.jumps.nothing_comes.Given as goal

abbrev pub ghost-all_wait : goal.ghost-all_wait
ghost-all_wait g a = g.o

abbrev pub ghost-next_moment : goal.ghost-next_moment
ghost-next_moment g a = g.o

abbrev pub ghost-silent_one : goal.ghost-silent_one
ghost-silent_one g a = g.o

abbrev pub ghost-all_finished : goal.ghost-all_finished
ghost-all_finished g a = g.o
