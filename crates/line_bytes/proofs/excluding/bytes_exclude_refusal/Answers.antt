use Rattle.line_bytes.proofs.Excluded.{bytes_exclude}
use Rattle.line_bytes.proofs.excluding.bytes_exclude_refusal.Goals as goal

pub returns : goal.returns
returns c = bytes_exclude
