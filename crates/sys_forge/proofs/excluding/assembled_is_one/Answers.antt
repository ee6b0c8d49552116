use Rattle.sys_forge.proofs.One.{assembled_one}
use Rattle.sys_forge.proofs.excluding.assembled_is_one.Goals as goal

pub returns : goal.returns
returns c = assembled_one c.line_laws.ensures
