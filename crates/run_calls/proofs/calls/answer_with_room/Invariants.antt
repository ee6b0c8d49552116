use Rattle.run_calls.proofs.calls.answer_with_room.Given as goal

abbrev pub ghost-answer_at_once : goal.ghost-answer_at_once
ghost-answer_at_once g a = g.c
