use Rattle.call_verdicts.proofs.arrays.indication.Given as goal

abbrev pub ghost-words_from : goal.ghost-words_from
ghost-words_from g a = g.s

abbrev pub ghost-indicated : goal.ghost-indicated
ghost-indicated g a = g.s
