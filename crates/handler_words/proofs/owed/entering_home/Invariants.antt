use Rattle.handler_words.proofs.owed.entering_home.Given as goal

abbrev pub ghost-loan_home : goal.ghost-loan_home
ghost-loan_home g a = g.o.state

abbrev pub ghost-entering_return : goal.ghost-entering_return
ghost-entering_return g a = g.o
