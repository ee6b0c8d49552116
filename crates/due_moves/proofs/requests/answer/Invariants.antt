use Rattle.due_moves.proofs.requests.answer.Given as goal

abbrev pub ghost-speak : goal.ghost-speak
ghost-speak g a = g.o.state
