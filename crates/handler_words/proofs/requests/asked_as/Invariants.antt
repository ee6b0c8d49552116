use Rattle.handler_words.proofs.requests.asked_as.Given as goal

abbrev pub ghost-set_bytes : goal.ghost-set_bytes
ghost-set_bytes g a = g.s
