use Rattle.handler_leaves.proofs.answers.recognized.Given as goal

abbrev pub ghost-is_set : goal.ghost-is_set
ghost-is_set g a = g.s
