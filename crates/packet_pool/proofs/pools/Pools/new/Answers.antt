use Rattle.packet_pool.proofs.Calls.{new_kept}
use Rattle.packet_pool.proofs.pools.Pools.new.Goals as goal

pub invariant_of-result : goal.invariant_of-result
invariant_of-result c = new_kept c.new-2.result c.new-3.result c.new-4.result c.in-Ok.row c.new-2.ensures.empty c.new-3.ensures.empty c.new-4.ensures.empty c.in-Ok.ensures
