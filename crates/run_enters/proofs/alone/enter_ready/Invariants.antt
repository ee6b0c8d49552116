use Rattle.run_stops.specs.Standing.{point_of}
use Rattle.run_enters.proofs.alone.enter_ready.Given as goal

abbrev pub ghost-enter : goal.ghost-enter
ghost-enter g a = point_of g.c a.self.now
