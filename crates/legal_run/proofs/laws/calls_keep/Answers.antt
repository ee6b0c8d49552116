use Rattle.legal_run.proofs.Keeps.{calls_keep}
use Rattle.legal_run.proofs.laws.calls_keep.Goals as goal

pub returns : goal.returns
returns c = calls_keep
