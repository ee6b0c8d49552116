use Rattle.run_commands.proofs.moves.answer_without.Given as goal

abbrev pub ghost-answer : goal.ghost-answer
ghost-answer g a = g.o
