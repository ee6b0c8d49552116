use Rattle.run_stops.specs.Standing.{point_of}
use Rattle.run_waits.proofs.pieces.quiet.Given as goal

abbrev pub ghost-quiet : goal.ghost-quiet
ghost-quiet g a = point_of g.c a.self.now
