use Rattle.run_stops.specs.Standing.{point_of}
use Rattle.run_waits.proofs.pieces.jump.Given as goal

abbrev pub ghost-jump : goal.ghost-jump
ghost-jump g a = point_of g.c a.self.now
