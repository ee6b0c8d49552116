use Rattle.call_verdicts.proofs.lendings.judged.Given as goal

abbrev pub ghost-may_be_lent : goal.ghost-may_be_lent
ghost-may_be_lent g a = g.s

abbrev pub ghost-told : goal.ghost-told
ghost-told g a = g.s
