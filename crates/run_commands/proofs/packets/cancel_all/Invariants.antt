use Rattle.run_stops.specs.Standing.{point_of}
use Rattle.run_commands.proofs.packets.cancel_all.Given as goal

abbrev pub ghost-write_cancel : goal.ghost-write_cancel
ghost-write_cancel g a = point_of g.c a.run.now

abbrev pub ghost-abort_queued : goal.ghost-abort_queued
ghost-abort_queued g a = g.c
