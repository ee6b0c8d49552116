use Rattle.std.proofs.Common.{Some, None, ◌&&◌, refl, sym, ap, ◌∙◌}
use Rattle.packet_pool.specs.declared.states.Kind.TheVariants.{Packet}
use Rattle.packet_pool.proofs.Calls.{lent_is}
use Rattle.packet_pool.proofs.pools.Pools.lent.Goals as goal

pub returns-then-is_same : goal.returns-then-is_same
returns-then-is_same c =
    sym (ap (λ b. b && c.in-Some.descriptor.now.lent) (sym c.is_same.ensures ∙ c.if-is_same.true))
    ∙ lent_is c.self.inside.blocks c.self.inside.pools c.self.inside.pools c.self.inside.descriptors c.self.inside.descriptors c.self.inside.made c.self.inside.row c.args.self.now c.self.view_is c.self.invariant Packet c.args.packet.0 (Some c.in-Some.descriptor.now) (sym c.in-Some.ensures.value)

pub returns-else-is_same : goal.returns-else-is_same
returns-else-is_same c =
    c.if-is_same.false ∙ sym (ap (λ b. b && c.in-Some.descriptor.now.lent) (sym c.is_same.ensures ∙ c.if-is_same.false))
    ∙ lent_is c.self.inside.blocks c.self.inside.pools c.self.inside.pools c.self.inside.descriptors c.self.inside.descriptors c.self.inside.made c.self.inside.row c.args.self.now c.self.view_is c.self.invariant Packet c.args.packet.0 (Some c.in-Some.descriptor.now) (sym c.in-Some.ensures.value)

pub returns-in-None : goal.returns-in-None
returns-in-None c =
    lent_is c.self.inside.blocks c.self.inside.pools c.self.inside.pools c.self.inside.descriptors c.self.inside.descriptors c.self.inside.made c.self.inside.row c.args.self.now c.self.view_is c.self.invariant Packet c.args.packet.0 None (sym c.in-None.ensures.value)
