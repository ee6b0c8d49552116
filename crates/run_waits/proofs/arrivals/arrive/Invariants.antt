use Rattle.run_stops.specs.Standing.{point_of}
use Rattle.run_waits.proofs.arrivals.arrive.Given as goal

abbrev pub ghost-come : goal.ghost-come
ghost-come g a = point_of g.c a.run.now
