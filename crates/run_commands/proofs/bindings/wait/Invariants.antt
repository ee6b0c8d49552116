use Rattle.run_stops.specs.Standing.{point_of}
use Rattle.run_commands.proofs.bindings.wait.Given as goal

abbrev pub ghost-wait : goal.ghost-wait
ghost-wait g a = point_of g.c a.self.now
