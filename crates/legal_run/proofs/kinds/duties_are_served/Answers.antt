use Rattle.legal_run.proofs.Duties.{duties, asks_go_on}
use Rattle.legal_run.proofs.Resets.{resets_go_on}
use Rattle.legal_run.proofs.kinds.duties_are_served.Goals as goal

pub returns : goal.returns
returns c = record { plain = duties; asks = asks_go_on; reset = resets_go_on }
