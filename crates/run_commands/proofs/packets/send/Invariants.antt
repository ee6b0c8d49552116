use Rattle.run_stops.specs.Standing.{point_of}
use Rattle.run_commands.proofs.packets.send.Given as goal

abbrev pub ghost-write_send : goal.ghost-write_send
ghost-write_send g a = point_of g.c a.run.now

abbrev pub ghost-complete_refused : goal.ghost-complete_refused
ghost-complete_refused g a = g.c
