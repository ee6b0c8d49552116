use Rattle.sys_forge.proofs.One.{assembly_of}
use Rattle.sys_forge.proofs.excluding.assembled_is_assembly.Goals as goal

pub returns : goal.returns
returns c = assembly_of
