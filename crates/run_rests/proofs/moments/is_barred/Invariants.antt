use Rattle.run_rests.proofs.moments.is_barred.Given as goal

abbrev pub ghost-next_stamp : goal.ghost-next_stamp
ghost-next_stamp g a = g.o

abbrev pub ghost-none_sleeps : goal.ghost-none_sleeps
ghost-none_sleeps g a = g.o
