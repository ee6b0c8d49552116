use Rattle.handler_words.proofs.words.words_of.Given as goal

abbrev pub ghost-context_word : goal.ghost-context_word
ghost-context_word g a = g.o.state

abbrev pub ghost-due_of : goal.ghost-due_of
ghost-due_of g a = g.o
