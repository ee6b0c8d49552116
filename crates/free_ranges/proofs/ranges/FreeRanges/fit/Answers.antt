use Rattle.std.proofs.Common.{◌≡◌, ◌^◌, ℕ, List, get_or, length, subst}
use Rattle.free_ranges.specs.Ranges.{IsFit, IsFirstFit, AreInside}
use Rattle.free_ranges.proofs.RangeLists.{fit_found, first_found, all_inside}
use Rattle.free_ranges.proofs.ranges.FreeRanges.fit.Goals as goal

pub returns : goal.returns
returns c =
    let P : List ℕ → Type 0 = λ l. IsFit (λ u. get_or l u 0) c.args.length c.not_below.result in
    let Q : List ℕ → Type 0 = λ l. (k : ℕ) → length l ≡ 2 ^ k → IsFirstFit (λ u. get_or l u 0) c.args.length c.not_below.result in
    record {
      fit = subst P c.self.view_is (fit_found c.self.inside.lengths c.args.length c.self.invariant.ranges c.requires c.not_below.result c.not_below.ensures.found);
      first = subst Q c.self.view_is (λ k e. first_found c.self.inside.lengths c.args.length c.self.invariant.ranges c.requires c.not_below.result (c.not_below.ensures.first k e));
      inside = subst AreInside c.self.view_is (all_inside c.self.inside.lengths c.self.invariant.ranges);
    }
