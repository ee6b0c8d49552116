use Rattle.handler_words.proofs.requests.entering_asked.Given as goal

abbrev pub ghost-context_word : goal.ghost-context_word
ghost-context_word g a = g.o.state
