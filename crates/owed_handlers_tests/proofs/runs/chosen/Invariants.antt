use Rattle.owed_handlers_tests.specs.Settled.{point_of}
use Rattle.owed_handlers_tests.proofs.runs.chosen.Given as goal

abbrev pub ghost-next_owed : goal.ghost-next_owed
ghost-next_owed a = point_of a.adapters.now a.book.now a.world.now
