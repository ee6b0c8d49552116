use Rattle.sys_forge.proofs.One.{assembly_excludes}
use Rattle.sys_forge.proofs.excluding.assembly_excludes_refusal.Goals as goal

pub returns : goal.returns
returns c = assembly_excludes c.line_laws.ensures
