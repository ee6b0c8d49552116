use Rattle.handler_words.proofs.owed.entering_owed.Given as goal

abbrev pub ghost-entering_request : goal.ghost-entering_request
ghost-entering_request g a = g.o

abbrev pub ghost-entering_home : goal.ghost-entering_home
ghost-entering_home g a = g.o

abbrev pub ghost-entering : goal.ghost-entering
ghost-entering g a = g.o
