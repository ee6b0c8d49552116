use Rattle.run_stops.specs.Standing.{point_of}
use Rattle.run_commands.proofs.bindings.bind.Given as goal

abbrev pub ghost-bind : goal.ghost-bind
ghost-bind g a = point_of g.c a.self.now
