use Rattle.run_rests.proofs.resting.rests.Given as goal

abbrev pub ghost-frame_due : goal.ghost-frame_due
ghost-frame_due g a = g.o

abbrev pub ghost-some_enters : goal.ghost-some_enters
ghost-some_enters g a = g.o

abbrev pub ghost-some_can_run : goal.ghost-some_can_run
ghost-some_can_run g a = g.o
