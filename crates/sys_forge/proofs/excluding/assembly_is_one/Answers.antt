use Rattle.sys_forge.proofs.One.{assembly_one}
use Rattle.sys_forge.proofs.excluding.assembly_is_one.Goals as goal

pub returns : goal.returns
returns c = assembly_one c.line_laws.ensures
