use Rattle.run_rests_tests.specs.Settled.{point_of}
use Rattle.run_rests_tests.proofs.runs.chosen.Given as goal

abbrev pub ghost-comes_next : goal.ghost-comes_next
ghost-comes_next a = point_of a.adapters.now a.book.now a.world.now a.frames.now a.course.now
