use Rattle.run_stops.specs.Standing.{point_of}
use Rattle.run_calls.proofs.calls.call.Given as goal

abbrev pub ghost-asked : goal.ghost-asked
ghost-asked g a = point_of g.c a.run.now

abbrev pub ghost-caller_of : goal.ghost-caller_of
ghost-caller_of g a = point_of g.c a.run.now

abbrev pub ghost-answer_now : goal.ghost-answer_now
ghost-answer_now g a = g.c

abbrev pub ghost-spin : goal.ghost-spin
ghost-spin g a = g.c

abbrev pub ghost-wait : goal.ghost-wait
ghost-wait g a = g.c

abbrev pub ghost-break_rule : goal.ghost-break_rule
ghost-break_rule g a = g.c
