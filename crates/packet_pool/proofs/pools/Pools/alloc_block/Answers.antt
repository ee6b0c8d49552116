use Rattle.std.proofs.Common.{refl, sym, ◌∙◌}
use Rattle.packet_pool.proofs.Calls.{block_no_room, block_starved, block_made_kept, block_made}
use Rattle.packet_pool.proofs.pools.Pools.alloc_block.Goals as goal

pub returns-in_default : goal.returns-in_default
returns-in_default c =
    block_no_room c.self.inside.blocks c.self.inside.pools c.self.inside.descriptors c.self.inside.made c.self.inside.row c.args.self.now c.self.view_is c.self.invariant c.args.length c.max-taken.result c.max-taken.ensures (rw c.in_default.is at c.room_for.ensures)

pub returns-in_default-insert : goal.returns-in_default-insert
returns-in_default-insert c =
    block_starved c.self.inside.blocks c.self.inside.pools c.self.inside.descriptors c.self.inside.made c.self.inside.row c.args.self.now c.self.view_is c.self.invariant c.args.length c.max-taken.result c.max-taken.ensures c.insert.new.self c.in-Some.unit (rw c.in-Some.is at c.room_for.ensures) (rw c.in_default-insert.is at c.insert.ensures.err)

pub invariant_of-self-2 : goal.invariant_of-self-2
invariant_of-self-2 c =
    block_made_kept c.self.inside.blocks c.self.inside.pools c.self.inside.descriptors c.self.inside.made c.self.inside.row c.args.self.now c.self.view_is c.self.invariant c.args.length c.max-taken.result c.max-taken.ensures c.insert.new.self c.take_at.new.self c.in-Some.unit c.unit_address-at.result c.unit_count.result
    (rw c.in-Some.is at c.room_for.ensures) c.unit_address-at.ensures (rw c.in-Ok.is at c.insert.ensures.updates) c.unit_count.ensures c.take_at.ensures

pub returns : goal.returns
returns c =
    block_made c.self.inside.blocks c.self.inside.pools c.self.inside.descriptors c.self.inside.made c.self.inside.row c.args.self.now c.self.view_is c.self.invariant c.args.length c.max-taken.result c.max-taken.ensures c.insert.new.self c.in-Some.unit c.unit_address-at.result
    (rw c.in-Some.is at c.room_for.ensures) c.unit_address-at.ensures (rw c.in-Ok.is at c.insert.ensures.updates)
