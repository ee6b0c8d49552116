use Rattle.handler_entries.proofs.enters.enter.Given as goal

abbrev pub ghost-number_of : goal.ghost-number_of
ghost-number_of g a = g.o

abbrev pub ghost-due_of : goal.ghost-due_of
ghost-due_of g a = g.o

abbrev pub ghost-address_of : goal.ghost-address_of
ghost-address_of g a = g.o

abbrev pub ghost-level_of : goal.ghost-level_of
ghost-level_of g a = g.o.inputs

abbrev pub ghost-take : goal.ghost-take
ghost-take g a = g.o
