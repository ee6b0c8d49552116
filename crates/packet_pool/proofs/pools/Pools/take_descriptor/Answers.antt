use Rattle.std.proofs.Common.{refl, sym, ap, ◌∙◌}
use Rattle.packet_pool.proofs.Calls.{descriptor_refused, descriptor_starved, descriptor_taken_kept, descriptor_taken, descriptor_inside}
use Rattle.packet_pool.proofs.KeptMoves.{are_sized}
use Rattle.packet_pool.proofs.pools.Pools.take_descriptor.Goals as goal

pub idle_place-requires : goal.idle_place-requires
idle_place-requires c = are_sized c.self.inside.blocks c.self.inside.pools c.self.inside.pools c.self.inside.descriptors c.self.inside.descriptors c.self.inside.made c.self.inside.row c.self.invariant

pub returns-in-Err-clause-live : goal.returns-in-Err-clause-live
returns-in-Err-clause-live c = descriptor_refused c.self.inside.blocks c.self.inside.pools c.self.inside.pools c.self.inside.descriptors c.self.inside.descriptors c.self.inside.made c.self.inside.row c.args.self.now c.self.view_is c.self.invariant c.args.kind c.args.pool c.in-Err.refusal (rw c.in-Err.is at c.idle_place.ensures)

pub returns-in_default-clause-live : goal.returns-in_default-clause-live
returns-in_default-clause-live c = descriptor_starved c.self.inside.blocks c.self.inside.pools c.self.inside.pools c.self.inside.descriptors c.insert.new.self c.self.inside.made c.self.inside.row c.args.self.now c.self.view_is c.self.invariant c.args.kind c.args.pool c.in-Ok.idle.place c.in-Ok.idle.at (rw c.in-Ok.is at c.idle_place.ensures) (rw c.in_default.is at c.insert.ensures.err)

pub invariant_of-self-2 : goal.invariant_of-self-2
invariant_of-self-2 c = descriptor_taken_kept c.self.inside.blocks c.self.inside.pools c.take_place.new.pools c.self.inside.descriptors c.insert.new.self c.self.inside.made c.self.inside.row c.args.self.now c.self.view_is c.self.invariant c.args.kind c.args.pool c.in-Ok.idle.place c.in-Ok.idle.at (rw c.in-Ok.is at c.idle_place.ensures) c.take_place.ensures (rw c.in-Ok-insert.is at c.insert.ensures.updates)

pub returns-clause-live : goal.returns-clause-live
returns-clause-live c = descriptor_taken c.self.inside.blocks c.self.inside.pools c.take_place.new.pools c.self.inside.descriptors c.insert.new.self c.self.inside.made c.self.inside.row c.args.self.now c.self.view_is c.self.invariant c.args.kind c.args.pool c.in-Ok.idle.place c.in-Ok.idle.at (rw c.in-Ok.is at c.idle_place.ensures) c.take_place.ensures (rw c.in-Ok-insert.is at c.insert.ensures.updates)

pub returns-clause-inside : goal.returns-clause-inside
returns-clause-inside c = descriptor_inside c.self.inside.blocks c.self.inside.pools c.take_place.new.pools c.self.inside.descriptors c.insert.new.self c.self.inside.made c.self.inside.row c.args.self.now c.self.view_is c.self.invariant c.args.kind c.args.pool c.in-Ok.idle.place c.in-Ok.idle.at (rw c.in-Ok.is at c.idle_place.ensures) c.take_place.ensures (rw c.in-Ok-insert.is at c.insert.ensures.updates)
