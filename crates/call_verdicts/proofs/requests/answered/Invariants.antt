use Rattle.call_verdicts.proofs.requests.answered.Given as goal

abbrev pub ghost-fits : goal.ghost-fits
ghost-fits g a = g.s

abbrev pub ghost-answer : goal.ghost-answer
ghost-answer g a = g.s
