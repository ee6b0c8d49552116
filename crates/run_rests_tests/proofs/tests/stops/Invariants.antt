use Rattle.run_rests_tests.specs.Settled.{shown_by}
use Rattle.run_rests_tests.proofs.tests.stops.Given as goal

abbrev pub ghost-wait : goal.ghost-wait
ghost-wait a = shown_by a.self.now
