use Rattle.run_stops.specs.Standing.{point_of}
use Rattle.run_stops.proofs.tails.end_one.Given as goal

abbrev pub ghost-complete : goal.ghost-complete
ghost-complete g a = point_of g.c a.self.now

abbrev pub ghost-back : goal.ghost-back
ghost-back g a = point_of g.c a.self.now

abbrev pub ghost-fail_request : goal.ghost-fail_request
ghost-fail_request g a = point_of g.c a.run.now
