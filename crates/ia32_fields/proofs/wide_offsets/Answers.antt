use Rattle.ia32_fields.proofs.Offsets.{wide_offsets}
use Rattle.ia32_fields.proofs.wide_offsets.Goals as goal

pub returns : goal.returns
returns c = wide_offsets
