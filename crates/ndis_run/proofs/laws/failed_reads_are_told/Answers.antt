use Rattle.ndis_run.proofs.EndsLaws.{failed_read}
use Rattle.ndis_run.proofs.laws.failed_reads_are_told.Goals as goal

pub returns : goal.returns
returns c = failed_read
