use Rattle.run_rests.proofs.MayStand.{due_laws}
use Rattle.run_rests.proofs.laws.due_laws.Goals as goal

pub returns : goal.returns
returns c = due_laws c.owed_laws.ensures
