use Rattle.run_stops.specs.Standing.{point_of}
use Rattle.run_calls.proofs.calls.wait.Given as goal

abbrev pub ghost-call : goal.ghost-call
ghost-call g a = point_of g.c a.self.now
