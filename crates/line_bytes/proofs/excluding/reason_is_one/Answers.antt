use Rattle.line_bytes.proofs.One.{reason_one}
use Rattle.line_bytes.proofs.excluding.reason_is_one.Goals as goal

pub returns : goal.returns
returns c = reason_one
