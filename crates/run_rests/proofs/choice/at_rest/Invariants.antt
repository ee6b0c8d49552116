use Rattle.run_rests.proofs.choice.at_rest.Given as goal

abbrev pub ghost-next_jump : goal.ghost-next_jump
ghost-next_jump g a = g.o

abbrev pub ghost-silent : goal.ghost-silent
ghost-silent g a = g.o

abbrev pub ghost-is_quiet : goal.ghost-is_quiet
ghost-is_quiet g a = g.o
