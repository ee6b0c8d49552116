use Rattle.run_stops.specs.Standing.{point_of}
use Rattle.run_turns.proofs.turns.end_by_fault.Given as goal

abbrev pub ghost-fault : goal.ghost-fault
ghost-fault g a = point_of g.c a.self.now

abbrev pub ghost-stop_for : goal.ghost-stop_for
ghost-stop_for g a = g.c
