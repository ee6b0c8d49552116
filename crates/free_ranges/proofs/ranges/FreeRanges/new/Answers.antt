use Rattle.std.proofs.Common.{◌≡◌, ℕ, ◌+◌, replicate, ap, ◌∙◌, set}
use Rattle.free_ranges.proofs.RangeLists.{new_kept}
use Rattle.free_ranges.proofs.ranges.FreeRanges.new.Goals as goal

pub invariant_of-result : goal.invariant_of-result
invariant_of-result c =
    let zeros : c.in_ok-ends.ends.items ≡ replicate {A = ℕ} (c.args.units + 1) 0 = c.in_ok-ends.ensures.items_if_clones_equal (λ y e. e) in
    new_kept c.args.units c.set.new.self c.in_ok-ends.ends.items c.requires.some c.requires.small (c.set.ensures ∙ ap (λ l. set l 0 c.args.units) c.in_ok-lengths.ensures) zeros
