use Rattle.run_stops.specs.Standing.{point_of}
use Rattle.run_commands.proofs.bindings.end.Given as goal

abbrev pub ghost-end : goal.ghost-end
ghost-end g a = point_of g.c a.self.now
