use Rattle.handler_entries.proofs.takes.wait_for_leave.Given as goal

abbrev pub ghost-set_wait : goal.ghost-set_wait
ghost-set_wait g a = g.o
