use Rattle.owed_handlers_tests.specs.Settled.{two}
use Rattle.owed_handlers_tests.proofs.runs.new_adapters.Given as goal

abbrev pub ghost-new : goal.ghost-new
ghost-new a = two
