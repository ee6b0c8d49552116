use Rattle.std.proofs.Common.{refl}
use Rattle.miniport.proofs.Standing.{may_fault}
use Rattle.miniport.proofs.steps.fault.Goals as goal

pub write-requires : goal.write-requires
write-requires g c = (may_fault g.o c.args.x c.args.kind c.args.address c.requires.1.0 c.requires.1.1.0, (c.requires.0, (refl, (tt, c.requires.1.1.1))))
