use Rattle.run_stops.specs.Standing.{point_of}
use Rattle.run_calls.proofs.calls.spin.Given as goal

abbrev pub ghost-write_call : goal.ghost-write_call
ghost-write_call g a = point_of g.c a.run.now

abbrev pub ghost-write_spin : goal.ghost-write_spin
ghost-write_spin g a = point_of g.c a.run.now
