use Rattle.run_stops.specs.Standing.{point_of}
use Rattle.run_enters.proofs.resets.enter_reset.Given as goal

abbrev pub ghost-note : goal.ghost-note
ghost-note g a = point_of g.c a.self.now

abbrev pub ghost-enter_ready : goal.ghost-enter_ready
ghost-enter_ready g a = g.c
