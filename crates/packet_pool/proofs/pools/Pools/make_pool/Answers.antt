use Rattle.std.proofs.Common.{ℕ, ◌*◌, ◌+◌, ◌≤◌, Some, refl, sym, ap, subst, ◌∙◌, arith}
use Rattle.std.specs.Ordering.{nat_cmp}
use Rattle.std.specs.BTreeMap.{Updates}
use Rattle.packet_pool.proofs.Sound.{count_tells, new_pool}
use Rattle.packet_pool.proofs.Calls.{pool_count, pool_no_room, pool_starved_here, pool_starved, same_kept, pool_made_kept, pool_made}
use Rattle.packet_pool.proofs.pools.Pools.make_pool.Goals as goal

pub returns-then-not-is_count : goal.returns-then-not-is_count
returns-then-not-is_count c = pool_count c.args.self.now c.args.kind c.args.count (sym c.is_count.ensures ∙ c.if-not-is_count.true)

pub returns-in_default : goal.returns-in_default
returns-in_default c = pool_no_room c.self.inside.blocks c.self.inside.pools c.self.inside.pools c.self.inside.descriptors c.self.inside.made c.self.inside.row c.args.self.now c.self.view_is c.self.invariant c.args.kind c.args.count (sym c.is_count.ensures ∙ c.if-not-is_count.false) (c.args.count * c.descriptor_size.result) (ap (λ (n : ℕ). c.args.count * n) c.descriptor_size.ensures) (rw c.in_default.is at c.room_for.ensures)

pub returns-then-self-ge-MOST_POOLS : goal.returns-then-self-ge-MOST_POOLS
returns-then-self-ge-MOST_POOLS c = pool_starved_here c.self.inside.blocks c.self.inside.pools c.self.inside.pools c.self.inside.descriptors c.self.inside.made c.self.inside.row c.args.self.now c.self.view_is c.self.invariant c.args.kind c.args.count (sym c.is_count.ensures ∙ c.if-not-is_count.false) (c.args.count * c.descriptor_size.result) (ap (λ (n : ℕ). c.args.count * n) c.descriptor_size.ensures) c.in-Some.unit (rw c.in-Some.is at c.room_for.ensures)

pub returns-in_default-new : goal.returns-in_default-new
returns-in_default-new c = pool_starved_here c.self.inside.blocks c.self.inside.pools c.self.inside.pools c.self.inside.descriptors c.self.inside.made c.self.inside.row c.args.self.now c.self.view_is c.self.invariant c.args.kind c.args.count (sym c.is_count.ensures ∙ c.if-not-is_count.false) (c.args.count * c.descriptor_size.result) (ap (λ (n : ℕ). c.args.count * n) c.descriptor_size.ensures) c.in-Some.unit (rw c.in-Some.is at c.room_for.ensures)

pub returns-in_default-insert : goal.returns-in_default-insert
returns-in_default-insert c = pool_starved c.self.inside.blocks c.self.inside.pools c.insert.new.self c.self.inside.descriptors c.self.inside.made c.self.inside.row c.args.self.now c.self.view_is c.self.invariant c.args.kind c.args.count (sym c.is_count.ensures ∙ c.if-not-is_count.false) (c.args.count * c.descriptor_size.result) (ap (λ (n : ℕ). c.args.count * n) c.descriptor_size.ensures) c.in-Some.unit (rw c.in-Some.is at c.room_for.ensures) (rw c.in_default-insert.is at c.insert.ensures.err)

pub invariant_of-self : goal.invariant_of-self
invariant_of-self c = same_kept c.self.inside.blocks c.self.inside.pools c.insert.new.self c.self.inside.descriptors c.self.inside.made c.self.inside.row c.args.self.now c.self.view_is c.self.invariant c.args.kind c.args.count (sym c.is_count.ensures ∙ c.if-not-is_count.false) (c.args.count * c.descriptor_size.result) (ap (λ (n : ℕ). c.args.count * n) c.descriptor_size.ensures) (rw c.in_default-insert.is at c.insert.ensures.err)

pub invariant_of-self-2 : goal.invariant_of-self-2
invariant_of-self-2 c =
    pool_made_kept c.self.inside.blocks c.self.inside.pools c.insert.new.self c.self.inside.descriptors c.self.inside.made c.self.inside.row c.args.self.now c.self.view_is c.self.invariant c.args.kind c.args.count (sym c.is_count.ensures ∙ c.if-not-is_count.false) (c.args.count * c.descriptor_size.result) (ap (λ (n : ℕ). c.args.count * n) c.descriptor_size.ensures) c.if-self-ge-MOST_POOLS.false c.in-Some.unit (rw c.in-Some.is at c.room_for.ensures)
    (record { pool = record { kind = c.args.kind; first = record { 0 = c.unit_address.result }; count = c.args.count }; idle = c.in-Ok.idle }) (ap (λ (a : ℕ). new_pool c.args.kind c.args.count a) c.unit_address.ensures) (subst (λ (h : ℕ). Updates nat_cmp c.self.inside.pools c.insert.new.self h (Some (record { pool = record { kind = c.args.kind; first = record { 0 = c.unit_address.result }; count = c.args.count }; idle = c.in-Ok.idle }))) c.pool_handle-handle.ensures (rw c.in-Ok-insert.is at c.insert.ensures.updates)) c.take_at.new.self c.unit_count.result c.in-Ok.ensures c.unit_count.ensures c.take_at.ensures

pub returns : goal.returns
returns c =
    pool_made c.self.inside.blocks c.self.inside.pools c.insert.new.self c.self.inside.descriptors c.self.inside.made c.self.inside.row c.args.self.now c.self.view_is c.self.invariant c.args.kind c.args.count (sym c.is_count.ensures ∙ c.if-not-is_count.false) (c.args.count * c.descriptor_size.result) (ap (λ (n : ℕ). c.args.count * n) c.descriptor_size.ensures) c.if-self-ge-MOST_POOLS.false c.in-Some.unit (rw c.in-Some.is at c.room_for.ensures)
    (record { pool = record { kind = c.args.kind; first = record { 0 = c.unit_address.result }; count = c.args.count }; idle = c.in-Ok.idle }) (ap (λ (a : ℕ). new_pool c.args.kind c.args.count a) c.unit_address.ensures) (subst (λ (h : ℕ). Updates nat_cmp c.self.inside.pools c.insert.new.self h (Some (record { pool = record { kind = c.args.kind; first = record { 0 = c.unit_address.result }; count = c.args.count }; idle = c.in-Ok.idle }))) c.pool_handle-handle.ensures (rw c.in-Ok-insert.is at c.insert.ensures.updates)) c.pool_handle-handle.result c.pool_handle-handle.ensures
