use Rattle.nd_mem.proofs.Mapped.{low_seen}
use Rattle.nd_mem.proofs.Memory.is_low.Goals as goal

pub returns : goal.returns
returns c = low_seen c.self.inside.regions.items c.args.self.now c.self.view_is c.self.invariant
