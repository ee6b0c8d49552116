use Rattle.import_answers.specs.Answers.{answering}
use Rattle.guest_calls.proofs.groups.setup.Goals as goal

pub returns-in-3 : goal.returns-in-3
unfolding answering
returns-in-3 c = rw c.in-3.is c.register_miniport.ensures
