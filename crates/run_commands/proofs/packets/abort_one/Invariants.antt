use Rattle.run_stops.specs.Standing.{point_of}
use Rattle.run_commands.proofs.packets.abort_one.Given as goal

abbrev pub ghost-complete : goal.ghost-complete
ghost-complete g a = point_of g.c a.self.now
