use Rattle.run_stops.specs.Standing.{point_of}
use Rattle.run_calls.proofs.calls.answer_now.Given as goal

abbrev pub ghost-judged : goal.ghost-judged
ghost-judged g a = point_of g.c a.run.now

abbrev pub ghost-break_rule : goal.ghost-break_rule
ghost-break_rule g a = g.c

abbrev pub ghost-answer_with_room : goal.ghost-answer_with_room
ghost-answer_with_room g a = g.c
