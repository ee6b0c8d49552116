use Rattle.run_rests.proofs.moments.next_moment.Given as goal

abbrev pub ghost-is_barred : goal.ghost-is_barred
ghost-is_barred g a = g.o

abbrev pub ghost-next_stamp : goal.ghost-next_stamp
ghost-next_stamp g a = g.o

abbrev pub ghost-next_wake : goal.ghost-next_wake
ghost-next_wake g a = g.o

abbrev pub ghost-next_check : goal.ghost-next_check
ghost-next_check g a = g.o

abbrev pub ghost-next_alarm : goal.ghost-next_alarm
ghost-next_alarm g a = g.o
