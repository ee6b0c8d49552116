use Rattle.ndis_run.proofs.EndsLaws.{calm}
use Rattle.ndis_run.proofs.laws.calm_devices_fail_nothing.Goals as goal

pub returns : goal.returns
returns c = calm
