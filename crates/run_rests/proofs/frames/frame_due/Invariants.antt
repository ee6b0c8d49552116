use Rattle.run_rests.proofs.frames.frame_due.Given as goal

abbrev pub ghost-next_stamp : goal.ghost-next_stamp
ghost-next_stamp g a = g.o
