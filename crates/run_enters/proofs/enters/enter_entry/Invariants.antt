use Rattle.run_stops.specs.Standing.{point_of}
use Rattle.run_enters.proofs.enters.enter_entry.Given as goal

abbrev pub ghost-prepare_entry : goal.ghost-prepare_entry
ghost-prepare_entry g a = point_of g.c a.run.now

abbrev pub ghost-enter_alone : goal.ghost-enter_alone
ghost-enter_alone g a = g.c
