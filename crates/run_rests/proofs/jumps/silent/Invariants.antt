use Rattle.run_rests.proofs.jumps.silent.Given as goal

abbrev pub ghost-is_idle : goal.ghost-is_idle
ghost-is_idle g a = g.o

abbrev pub ghost-silent_one : goal.ghost-silent_one
ghost-silent_one g a = g.o
