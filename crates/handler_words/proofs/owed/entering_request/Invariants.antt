use Rattle.handler_words.proofs.owed.entering_request.Given as goal

abbrev pub ghost-to_hand : goal.ghost-to_hand
ghost-to_hand g a = g.o.state

abbrev pub ghost-entering_asked : goal.ghost-entering_asked
ghost-entering_asked g a = g.o
