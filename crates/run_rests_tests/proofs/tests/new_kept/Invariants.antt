use Rattle.std.proofs.Common.{[]}
use Rattle.run_rests_tests.specs.Settled.{two}
use Rattle.run_rests_tests.proofs.tests.new_kept.Given as goal

abbrev pub ghost-new : goal.ghost-new
ghost-new a = two []
