use Rattle.run_stops.specs.Standing.{point_of}
use Rattle.run_calls.proofs.calls.break_rule.Given as goal

abbrev pub ghost-call : goal.ghost-call
ghost-call g a = point_of g.c a.self.now

abbrev pub ghost-stop_for : goal.ghost-stop_for
ghost-stop_for g a = g.c
