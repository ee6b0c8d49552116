use Rattle.std.proofs.Common.{ℕ, ◌≡◌, ◌*◌, ◌≤◌, sym, ap, ◌∙◌, arith}
use Rattle.packet_pool.specs.LiveSet.{descriptor_size}
use Rattle.packet_pool.proofs.KeptMoves.{are_sized}
use Rattle.packet_pool.proofs.Calls.{pool_not_whole, freed_pool_low, freed_pool_small, freed_pool_inside, freed_pool_taken, freed_pool_kept, pool_freed}
use Rattle.packet_pool.proofs.pools.Pools.free_pool.Goals as goal

pub is_whole-requires : goal.is_whole-requires
is_whole-requires c = are_sized c.self.inside.blocks c.self.inside.pools c.self.inside.pools c.self.inside.descriptors c.self.inside.descriptors c.self.inside.made c.self.inside.row c.self.invariant

pub returns-then-not-is_whole : goal.returns-then-not-is_whole
returns-then-not-is_whole c = pool_not_whole c.self.inside.blocks c.self.inside.pools c.self.inside.pools c.self.inside.descriptors c.self.inside.made c.self.inside.row c.args.self.now c.self.view_is c.self.invariant c.args.pool (rw c.if-not-is_whole.true at c.is_whole.ensures)

pub overflow_mul-length : goal.overflow_mul-length
overflow_mul-length c =
    let small = freed_pool_small c.self.inside.blocks c.self.inside.pools c.remove.new.self c.self.inside.descriptors c.self.inside.made c.self.inside.row c.args.self.now c.self.view_is c.self.invariant c.args.pool (rw c.if-not-is_whole.false at c.is_whole.ensures) c.in-Some.kept (sym c.remove.ensures.value ∙ c.in-Some.is) in
    let e : c.in-Some.kept.pool.count * c.descriptor_size.result ≡ c.in-Some.kept.pool.count * descriptor_size c.in-Some.kept.pool.kind = (ap (λ (n : ℕ). c.in-Some.kept.pool.count * n) c.descriptor_size.ensures) in
    omega (arith, small, e)

pub unit_at-requires : goal.unit_at-requires
unit_at-requires c = freed_pool_low c.self.inside.blocks c.self.inside.pools c.remove.new.self c.self.inside.descriptors c.self.inside.made c.self.inside.row c.args.self.now c.self.view_is c.self.invariant c.args.pool (rw c.if-not-is_whole.false at c.is_whole.ensures) c.in-Some.kept (sym c.remove.ensures.value ∙ c.in-Some.is)

pub give_back-requires-clause-inside : goal.give_back-requires-clause-inside
give_back-requires-clause-inside c = rw c.self.invariant.row.size (freed_pool_inside c.self.inside.blocks c.self.inside.pools c.remove.new.self c.self.inside.descriptors c.self.inside.made c.self.inside.row c.args.self.now c.self.view_is c.self.invariant c.args.pool (rw c.if-not-is_whole.false at c.is_whole.ensures) c.in-Some.kept (sym c.remove.ensures.value ∙ c.in-Some.is) c.unit_at.result (c.in-Some.kept.pool.count * c.descriptor_size.result) c.unit_count.result c.unit_at.ensures (ap (λ (n : ℕ). c.in-Some.kept.pool.count * n) c.descriptor_size.ensures) c.unit_count.ensures)

pub give_back-requires-clause-taken : goal.give_back-requires-clause-taken
give_back-requires-clause-taken c = freed_pool_taken c.self.inside.blocks c.self.inside.pools c.remove.new.self c.self.inside.descriptors c.self.inside.made c.self.inside.row c.args.self.now c.self.view_is c.self.invariant c.args.pool (rw c.if-not-is_whole.false at c.is_whole.ensures) c.in-Some.kept (sym c.remove.ensures.value ∙ c.in-Some.is) c.unit_at.result (c.in-Some.kept.pool.count * c.descriptor_size.result) c.unit_count.result c.unit_at.ensures (ap (λ (n : ℕ). c.in-Some.kept.pool.count * n) c.descriptor_size.ensures) c.unit_count.ensures

pub invariant_of-self-2 : goal.invariant_of-self-2
invariant_of-self-2 c = freed_pool_kept c.self.inside.blocks c.self.inside.pools c.remove.new.self c.self.inside.descriptors c.self.inside.made c.self.inside.row c.args.self.now c.self.view_is c.self.invariant c.args.pool (rw c.if-not-is_whole.false at c.is_whole.ensures) c.in-Some.kept (sym c.remove.ensures.value ∙ c.in-Some.is) c.unit_at.result (c.in-Some.kept.pool.count * c.descriptor_size.result) c.unit_count.result c.unit_at.ensures (ap (λ (n : ℕ). c.in-Some.kept.pool.count * n) c.descriptor_size.ensures) c.unit_count.ensures c.give_back.new.self c.remove.ensures.updates c.give_back.ensures

pub returns : goal.returns
returns c = pool_freed c.self.inside.blocks c.self.inside.pools c.remove.new.self c.self.inside.descriptors c.self.inside.made c.self.inside.row c.args.self.now c.self.view_is c.self.invariant c.args.pool (rw c.if-not-is_whole.false at c.is_whole.ensures) c.in-Some.kept (sym c.remove.ensures.value ∙ c.in-Some.is) c.remove.ensures.updates
