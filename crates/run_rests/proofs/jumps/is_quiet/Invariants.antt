use Rattle.run_rests.proofs.jumps.is_quiet.Given as goal

abbrev pub ghost-rests : goal.ghost-rests
ghost-rests g a = g.o

abbrev pub ghost-waits : goal.ghost-waits
ghost-waits g a = g.o.state

abbrev pub ghost-nothing_comes : goal.ghost-nothing_comes
ghost-nothing_comes g a = g.o
