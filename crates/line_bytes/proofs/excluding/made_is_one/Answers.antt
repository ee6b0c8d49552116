use Rattle.line_bytes.proofs.One.{made_one}
use Rattle.line_bytes.proofs.excluding.made_is_one.Goals as goal

pub returns : goal.returns
returns c = made_one c.template_is_one.ensures
