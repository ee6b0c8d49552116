use Rattle.ndis_run.proofs.EndsLaws.{complete}
use Rattle.ndis_run.proofs.laws.run_zero_is_complete.Goals as goal

pub returns : goal.returns
returns c = complete
