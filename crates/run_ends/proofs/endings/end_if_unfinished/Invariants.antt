use Rattle.run_ends.proofs.endings.end_if_unfinished.Given as goal

abbrev pub ghost-is_finished : goal.ghost-is_finished
ghost-is_finished g a = g.o.state
