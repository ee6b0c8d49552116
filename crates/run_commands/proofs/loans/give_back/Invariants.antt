use Rattle.run_stops.specs.Standing.{point_of}
use Rattle.run_commands.proofs.loans.give_back.Given as goal

abbrev pub ghost-write_return : goal.ghost-write_return
ghost-write_return g a = point_of g.c a.run.now
