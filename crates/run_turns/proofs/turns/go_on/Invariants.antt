use Rattle.run_stops.specs.Standing.{point_of}
use Rattle.run_turns.proofs.turns.go_on.Given as goal

abbrev pub ghost-turn : goal.ghost-turn
ghost-turn g a = point_of g.c a.self.now

abbrev pub ghost-stop_for : goal.ghost-stop_for
ghost-stop_for g a = g.c

abbrev pub ghost-end_by_fault : goal.ghost-end_by_fault
ghost-end_by_fault g a = g.c
