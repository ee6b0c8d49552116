use Rattle.run_stops.specs.Standing.{point_of}
use Rattle.run_commands.proofs.events.signal.Given as goal

abbrev pub ghost-write_event : goal.ghost-write_event
ghost-write_event g a = point_of g.c a.run.now
