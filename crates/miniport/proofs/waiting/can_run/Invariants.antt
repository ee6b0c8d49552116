use Rattle.miniport.proofs.waiting.can_run.Given as goal

abbrev pub ghost-has_come : goal.ghost-has_come
ghost-has_come g a = g.o.state
