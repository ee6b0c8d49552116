use Rattle.nd_base.specs.Layout.{usual}
use Rattle.entry_session_tests.proofs.runs.run.Given as goal

abbrev pub ghost-finished : goal.ghost-finished
ghost-finished a = record { image = a.image.now; slots = a.slots.now; budget = a.budget; layout = usual }
