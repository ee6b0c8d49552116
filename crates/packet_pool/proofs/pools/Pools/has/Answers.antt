use Rattle.std.proofs.Common.{Some, None, refl, sym, ◌∙◌}
use Rattle.packet_pool.proofs.Calls.{out_is}
use Rattle.packet_pool.proofs.pools.Pools.has.Goals as goal

pub returns-in-Some : goal.returns-in-Some
returns-in-Some c =
    c.is_same.ensures ∙ out_is c.self.inside.blocks c.self.inside.pools c.self.inside.pools c.self.inside.descriptors c.self.inside.descriptors c.self.inside.made c.self.inside.row c.args.self.now c.self.view_is c.self.invariant c.args.kind c.args.at.0 (Some c.in-Some.descriptor.now) (sym c.in-Some.ensures.value)

pub returns-in-None : goal.returns-in-None
returns-in-None c =
    out_is c.self.inside.blocks c.self.inside.pools c.self.inside.pools c.self.inside.descriptors c.self.inside.descriptors c.self.inside.made c.self.inside.row c.args.self.now c.self.view_is c.self.invariant c.args.kind c.args.at.0 None (sym c.in-None.ensures.value)
