use Rattle.handler_entries.proofs.takes.take.Given as goal

abbrev pub ghost-set_initialized : goal.ghost-set_initialized
ghost-set_initialized g a = g.o

abbrev pub ghost-set_enables : goal.ghost-set_enables
ghost-set_enables g a = g.o

abbrev pub ghost-hang_period : goal.ghost-hang_period
ghost-hang_period g a = g.o.state

abbrev pub ghost-set_check : goal.ghost-set_check
ghost-set_check g a = g.o

abbrev pub ghost-wait_for_leave : goal.ghost-wait_for_leave
ghost-wait_for_leave g a = g.o
