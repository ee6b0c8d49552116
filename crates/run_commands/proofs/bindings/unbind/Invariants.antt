use Rattle.run_stops.specs.Standing.{point_of}
use Rattle.run_commands.proofs.bindings.unbind.Given as goal

abbrev pub ghost-unbind : goal.ghost-unbind
ghost-unbind g a = point_of g.c a.self.now
