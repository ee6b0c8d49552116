use Rattle.handler_words.proofs.enterings.entering.Given as goal

abbrev pub ghost-words_of : goal.ghost-words_of
ghost-words_of g a = g.o

abbrev pub ghost-writes_of : goal.ghost-writes_of
ghost-writes_of g a = g.o

abbrev pub ghost-due_of : goal.ghost-due_of
ghost-due_of g a = g.o
