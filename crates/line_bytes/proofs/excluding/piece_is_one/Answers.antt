use Rattle.line_bytes.proofs.One.{piece_one}
use Rattle.line_bytes.proofs.excluding.piece_is_one.Goals as goal

pub returns : goal.returns
returns c = piece_one c.template_is_one.ensures
