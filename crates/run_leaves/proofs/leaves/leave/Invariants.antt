use Rattle.run_stops.specs.Standing.{point_of}
use Rattle.run_leaves.proofs.leaves.leave.Given as goal

abbrev pub ghost-judged : goal.ghost-judged
ghost-judged g a = point_of g.c a.run.now

abbrev pub ghost-leave_judged : goal.ghost-leave_judged
ghost-leave_judged g a = g.c
