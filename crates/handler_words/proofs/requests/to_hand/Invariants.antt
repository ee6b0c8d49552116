use Rattle.handler_words.proofs.requests.to_hand.Given as goal

abbrev pub ghost-asked_as : goal.ghost-asked_as
ghost-asked_as g a = g.s
