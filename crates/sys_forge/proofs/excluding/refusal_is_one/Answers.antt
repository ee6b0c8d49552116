use Rattle.sys_forge.proofs.One.{refusal_one}
use Rattle.sys_forge.proofs.excluding.refusal_is_one.Goals as goal

pub returns : goal.returns
returns c = refusal_one c.line_laws.ensures
