use Rattle.legal_run.proofs.Picks.{taken}
use Rattle.legal_run.proofs.laws.replies_are_taken.Goals as goal

pub returns : goal.returns
returns c = taken
