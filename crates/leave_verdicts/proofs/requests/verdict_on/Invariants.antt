use Rattle.leave_verdicts.proofs.requests.verdict_on.Given as goal

abbrev pub ghost-is_handed : goal.ghost-is_handed
ghost-is_handed g a = g.s

abbrev pub ghost-fits : goal.ghost-fits
ghost-fits g a = g.s

abbrev pub ghost-answer : goal.ghost-answer
ghost-answer g a = g.s
