use Rattle.std.proofs.Common.{rules, true, sym}
use Rattle.packet_pool.specs.declared.states.Kind.TheVariants.{Packet}
use Rattle.packet_pool.proofs.Calls.{never_none, marked_kept, marked_after}
use Rattle.packet_pool.proofs.pools.Pools.lend.Goals as goal

pub unreachable-requires : goal.unreachable-requires
unreachable-requires c = never_none c.self.inside.blocks c.self.inside.pools c.self.inside.pools c.self.inside.descriptors c.self.inside.descriptors c.self.inside.made c.self.inside.row c.args.self.now c.self.view_is c.self.invariant Packet c.args.packet.0 (sym (rw c.in-None.is at c.get_mut.ensures.value)) c.requires

pub invariant_of-self : goal.invariant_of-self
invariant_of-self c = marked_kept c.self.inside.blocks c.self.inside.pools c.self.inside.pools c.self.inside.descriptors (c.get_mut.follows.lender (record { kind = c.in-Some.descriptor.now.kind; pool = c.in-Some.descriptor.now.pool; lent = true })) c.self.inside.made c.self.inside.row c.args.self.now c.self.view_is c.self.invariant c.args.packet.0 true c.in-Some.descriptor.now (search rules) (search rules)

pub returns : goal.returns
returns c = record { may = c.requires; after = marked_after c.self.inside.blocks c.self.inside.pools c.self.inside.pools c.self.inside.descriptors (c.get_mut.follows.lender (record { kind = c.in-Some.descriptor.now.kind; pool = c.in-Some.descriptor.now.pool; lent = true })) c.self.inside.made c.self.inside.row c.args.self.now c.self.view_is c.self.invariant c.args.packet.0 true c.in-Some.descriptor.now (search rules) (search rules) }
