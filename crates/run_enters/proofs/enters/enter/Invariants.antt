use Rattle.run_enters.proofs.enters.enter.Given as goal

abbrev pub ghost-enter_entry : goal.ghost-enter_entry
ghost-enter_entry g a = g.c

abbrev pub ghost-enter_handler : goal.ghost-enter_handler
ghost-enter_handler g a = g.c
