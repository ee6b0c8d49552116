use Rattle.run_stops.specs.Standing.{point_of}
use Rattle.run_leaves.proofs.verdicts.write_verdict.Given as goal

abbrev pub ghost-complete : goal.ghost-complete
ghost-complete g a = point_of g.c a.run.now

abbrev pub ghost-requeue : goal.ghost-requeue
ghost-requeue g a = point_of g.c a.run.now

abbrev pub ghost-end_reset : goal.ghost-end_reset
ghost-end_reset g a = point_of g.c a.run.now

abbrev pub ghost-abort_held : goal.ghost-abort_held
ghost-abort_held g a = g.c

abbrev pub ghost-answer : goal.ghost-answer
ghost-answer g a = point_of g.c a.run.now
