use Rattle.std.proofs.Common.{◌≡◌, Some, None, refl, sym, ap, ◌∙◌}
use Rattle.std.specs.Ordering.{nat_cmp}
use Rattle.std.specs.BTreeMap as tree
use Rattle.packet_pool.proofs.Calls.{not_out, not_free, can_give, descriptor_given_kept, descriptor_given}
use Rattle.packet_pool.proofs.pools.Pools.give_descriptor.Goals as goal

pub returns-in_default : goal.returns-in_default
returns-in_default c =
    let none : tree.get nat_cmp c.self.inside.descriptors c.args.at.0 ≡ None = cc (c.get.ensures.value, c.copied.ensures, c.in_default.is) in
    not_out c.self.inside.blocks c.self.inside.pools c.self.inside.pools c.self.inside.descriptors c.self.inside.descriptors c.self.inside.made c.self.inside.row c.args.self.now c.self.view_is c.self.invariant c.args.kind c.args.at.0 none

pub returns-then-not-may_end : goal.returns-then-not-may_end
returns-then-not-may_end c =
    let found : tree.get nat_cmp c.self.inside.descriptors c.args.at.0 ≡ Some c.in-Some.descriptor = cc (c.get.ensures.value, c.copied.ensures, c.in-Some.is) in
    not_free c.self.inside.blocks c.self.inside.pools c.self.inside.pools c.self.inside.descriptors c.self.inside.descriptors c.self.inside.made c.self.inside.row c.args.self.now c.self.view_is c.self.invariant c.args.kind c.args.at.0 c.in-Some.descriptor found (sym c.may_end.ensures ∙ c.if-not-may_end.true)

pub give_place-requires : goal.give_place-requires
give_place-requires c =
    let found : tree.get nat_cmp c.self.inside.descriptors c.args.at.0 ≡ Some c.in-Some.descriptor = cc (c.get.ensures.value, c.copied.ensures, c.in-Some.is) in
    can_give c.self.inside.blocks c.self.inside.pools c.self.inside.pools c.self.inside.descriptors c.self.inside.descriptors c.self.inside.made c.self.inside.row c.args.self.now c.self.view_is c.self.invariant c.args.kind c.args.at.0 c.in-Some.descriptor found

pub invariant_of-self : goal.invariant_of-self
invariant_of-self c =
    let found : tree.get nat_cmp c.self.inside.descriptors c.args.at.0 ≡ Some c.in-Some.descriptor = cc (c.get.ensures.value, c.copied.ensures, c.in-Some.is) in
    descriptor_given_kept c.self.inside.blocks c.self.inside.pools c.give_place.new.pools c.self.inside.descriptors c.remove.new.self c.self.inside.made c.self.inside.row c.args.self.now c.self.view_is c.self.invariant c.args.kind c.args.at.0 c.in-Some.descriptor found c.give_place.ensures c.remove.ensures.updates

pub returns : goal.returns
returns c =
    let found : tree.get nat_cmp c.self.inside.descriptors c.args.at.0 ≡ Some c.in-Some.descriptor = cc (c.get.ensures.value, c.copied.ensures, c.in-Some.is) in
    descriptor_given c.self.inside.blocks c.self.inside.pools c.give_place.new.pools c.self.inside.descriptors c.remove.new.self c.self.inside.made c.self.inside.row c.args.self.now c.self.view_is c.self.invariant c.args.kind c.args.at.0 c.in-Some.descriptor found c.give_place.ensures c.remove.ensures.updates (sym c.may_end.ensures ∙ c.if-not-may_end.false)
