use Rattle.leave_verdicts.proofs.starts.initialize_verdict.Given as goal

abbrev pub ghost-has_attributes : goal.ghost-has_attributes
ghost-has_attributes g a = g.s
