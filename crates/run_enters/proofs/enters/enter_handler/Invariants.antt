use Rattle.run_stops.specs.Standing.{point_of}
use Rattle.run_enters.proofs.enters.enter_handler.Given as goal

abbrev pub ghost-prepare_owed : goal.ghost-prepare_owed
ghost-prepare_owed g a = point_of g.c a.run.now

abbrev pub ghost-enter_asked : goal.ghost-enter_asked
ghost-enter_asked g a = g.c

abbrev pub ghost-enter_home : goal.ghost-enter_home
ghost-enter_home g a = g.c

abbrev pub ghost-enter_reset : goal.ghost-enter_reset
ghost-enter_reset g a = g.c

abbrev pub ghost-enter_alone : goal.ghost-enter_alone
ghost-enter_alone g a = g.c
