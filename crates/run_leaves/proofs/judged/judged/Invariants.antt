use Rattle.run_leaves.proofs.judged.judged.Given as goal

abbrev pub ghost-judge : goal.ghost-judge
ghost-judge g a = g.o
