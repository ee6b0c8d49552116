use Rattle.std.proofs.Common.{refl, sym, ◌∙◌}
use Rattle.packet_pool.proofs.Calls.{no_block, freed_low, freed_inside, freed_taken, freed_kept, block_freed}
use Rattle.packet_pool.proofs.pools.Pools.free_block.Goals as goal

pub returns-in_default : goal.returns-in_default
returns-in_default c =
    no_block c.self.inside.blocks c.self.inside.pools c.self.inside.descriptors c.self.inside.made c.self.inside.row c.args.self.now c.self.view_is c.self.invariant c.args.at.0 c.remove.new.self
    (sym c.remove.ensures.value ∙ c.in_default.is) (rw c.in_default.is at c.remove.ensures.unchanged)

pub unit_at-requires : goal.unit_at-requires
unit_at-requires c =
    freed_low c.self.inside.blocks c.self.inside.pools c.self.inside.descriptors c.self.inside.made c.self.inside.row c.args.self.now c.self.view_is c.self.invariant c.args.at.0 c.remove.new.self c.in-Some.length
    (sym c.remove.ensures.value ∙ c.in-Some.is)

pub give_back-requires-clause-inside : goal.give_back-requires-clause-inside
give_back-requires-clause-inside c =
    rw c.self.invariant.row.size
    (freed_inside c.self.inside.blocks c.self.inside.pools c.self.inside.descriptors c.self.inside.made c.self.inside.row c.args.self.now c.self.view_is c.self.invariant c.args.at.0 c.remove.new.self c.in-Some.length
    (sym c.remove.ensures.value ∙ c.in-Some.is) c.unit_at.result c.max.result c.unit_count.result c.unit_at.ensures c.max.ensures c.unit_count.ensures)

pub give_back-requires-clause-taken : goal.give_back-requires-clause-taken
give_back-requires-clause-taken c =
    freed_taken c.self.inside.blocks c.self.inside.pools c.self.inside.descriptors c.self.inside.made c.self.inside.row c.args.self.now c.self.view_is c.self.invariant c.args.at.0 c.remove.new.self c.in-Some.length
    (sym c.remove.ensures.value ∙ c.in-Some.is) c.unit_at.result c.max.result c.unit_count.result c.unit_at.ensures c.max.ensures c.unit_count.ensures

pub invariant_of-self-2 : goal.invariant_of-self-2
invariant_of-self-2 c =
    freed_kept c.self.inside.blocks c.self.inside.pools c.self.inside.descriptors c.self.inside.made c.self.inside.row c.args.self.now c.self.view_is c.self.invariant c.args.at.0 c.remove.new.self c.in-Some.length
    (sym c.remove.ensures.value ∙ c.in-Some.is) c.unit_at.result c.max.result c.unit_count.result c.unit_at.ensures c.max.ensures c.unit_count.ensures c.give_back.new.self c.remove.ensures.updates c.give_back.ensures

pub returns : goal.returns
returns c =
    block_freed c.self.inside.blocks c.self.inside.pools c.self.inside.descriptors c.self.inside.made c.self.inside.row c.args.self.now c.self.view_is c.self.invariant c.args.at.0 c.remove.new.self c.in-Some.length
    (sym c.remove.ensures.value ∙ c.in-Some.is) c.remove.ensures.updates
