use Rattle.run_rests.proofs.waiting.holds.Given as goal

abbrev pub ghost-is_up : goal.ghost-is_up
ghost-is_up g a = g.s
