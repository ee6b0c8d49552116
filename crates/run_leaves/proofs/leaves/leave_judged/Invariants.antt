use Rattle.run_stops.specs.Standing.{point_of}
use Rattle.run_leaves.proofs.leaves.leave_judged.Given as goal

abbrev pub ghost-leave : goal.ghost-leave
ghost-leave g a = point_of g.c a.self.now

abbrev pub ghost-stop_for : goal.ghost-stop_for
ghost-stop_for g a = g.c

abbrev pub ghost-write_verdicts : goal.ghost-write_verdicts
ghost-write_verdicts g a = g.c
