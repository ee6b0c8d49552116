use Rattle.ia32_fields.proofs.Immediates.{wide_immediates}
use Rattle.ia32_fields.proofs.wide_immediates.Goals as goal

pub returns : goal.returns
returns c = wide_immediates
