use Rattle.sys_forge.proofs.Excluded.{lines_exclude}
use Rattle.sys_forge.proofs.excluding.lines_exclude_refusal.Goals as goal

pub returns : goal.returns
returns c = lines_exclude c.bytes_exclude_refusal.ensures
