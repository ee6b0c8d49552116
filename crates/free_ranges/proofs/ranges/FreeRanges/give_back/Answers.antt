use Rattle.std.proofs.Common.{sym, arith, ◌≡◌, get_or}
use Rattle.std.proofs.lemmas.Grind.{common_steps}
use Rattle.free_ranges.proofs.RangeLists.{give_left, give_in_row, past_in_row, given_kept, given_gives}
use Rattle.free_ranges.proofs.ranges.FreeRanges.give_back.Goals as goal

pub overflow_add-past : goal.overflow_add-past
overflow_add-past c =
    let small = c.self.invariant.small in
    let inside = past_in_row c.args.self.now c.self.inside.lengths c.args.first c.args.length (sym c.self.view_is) c.requires.inside in
    omega (arith, small, inside)

pub overflow_add-whole : goal.overflow_add-whole
overflow_add-whole c =
    let left_is : c.index-before.result.now ≡ get_or c.self.inside.ends.items c.args.first 0 = grind (arith, common_steps) in
    let small = c.self.invariant.small in
    let left = give_left c.args.self.now c.self.inside.lengths c.self.inside.ends.items c.args.first c.args.length c.index-before.result.now c.get-behind.result (sym c.self.view_is) c.self.invariant c.requires.some c.requires.inside c.requires.taken left_is c.get-behind.ensures in
    let last = give_in_row c.args.self.now c.self.inside.lengths c.self.inside.ends.items c.args.first c.args.length c.index-before.result.now c.get-behind.result (sym c.self.view_is) c.self.invariant c.requires.some c.requires.inside c.requires.taken left_is c.get-behind.ensures in
    omega (arith, small, left, last)

pub overflow_add-whole-2 : goal.overflow_add-whole-2
overflow_add-whole-2 c =
    let left_is : c.index-before.result.now ≡ get_or c.self.inside.ends.items c.args.first 0 = grind (arith, common_steps) in
    let small = c.self.invariant.small in
    let left = give_left c.args.self.now c.self.inside.lengths c.self.inside.ends.items c.args.first c.args.length c.index-before.result.now c.get-behind.result (sym c.self.view_is) c.self.invariant c.requires.some c.requires.inside c.requires.taken left_is c.get-behind.ensures in
    let last = give_in_row c.args.self.now c.self.inside.lengths c.self.inside.ends.items c.args.first c.args.length c.index-before.result.now c.get-behind.result (sym c.self.view_is) c.self.invariant c.requires.some c.requires.inside c.requires.taken left_is c.get-behind.ensures in
    omega (arith, small, left, last)

pub overflow_sub-first : goal.overflow_sub-first
overflow_sub-first c =
    let left_is : c.index-before.result.now ≡ get_or c.self.inside.ends.items c.args.first 0 = grind (arith, common_steps) in
    give_left c.args.self.now c.self.inside.lengths c.self.inside.ends.items c.args.first c.args.length c.index-before.result.now c.get-behind.result (sym c.self.view_is) c.self.invariant c.requires.some c.requires.inside c.requires.taken left_is c.get-behind.ensures

pub invariant_of-self : goal.invariant_of-self
invariant_of-self c =
    let left_is : c.index-before.result.now ≡ get_or c.self.inside.ends.items c.args.first 0 = grind (arith, common_steps) in
    given_kept c.args.self.now c.self.inside.lengths c.self.inside.ends.items c.args.first c.args.length c.index-before.result.now c.get-behind.result (sym c.self.view_is) c.self.invariant c.requires.some c.requires.inside c.requires.taken left_is c.get-behind.ensures c.set.new.self c.set-2.new.self c.set.ensures c.set-2.ensures

pub returns : goal.returns
returns c =
    let left_is : c.index-before.result.now ≡ get_or c.self.inside.ends.items c.args.first 0 = grind (arith, common_steps) in
    given_gives c.args.self.now c.self.inside.lengths c.self.inside.ends.items c.args.first c.args.length c.index-before.result.now c.get-behind.result (sym c.self.view_is) c.self.invariant c.requires.some c.requires.inside c.requires.taken left_is c.get-behind.ensures c.set.new.self c.set-2.new.self c.set.ensures c.set-2.ensures
