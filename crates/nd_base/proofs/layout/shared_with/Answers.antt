use Rattle.std.proofs.Common.{◌<◌, sym, ◌∙◌}
use Rattle.nd_base.specs.LayoutReading.{share, shared_with}
use Rattle.nd_base.proofs.FirstFrom.{passes, goes_by, none_passed}
use Rattle.nd_base.proofs.layout.shared_with.Goals as goal

pub returns-then-share-clause-value : goal.returns-then-share-clause-value
unfolding shared_with
returns-then-share-clause-value c =
    let lt : c.loop-second.second < 31 = c.loop-second-test.true in
    sym (sym c.loop-second.invariant ∙ passes (λ j. share c.args.offsets.now c.args.first j) c.loop-second.second 31 lt (sym c.if-share.ensures))

pub loop-second-preserved : goal.loop-second-preserved
loop-second-preserved c =
    let lt : c.loop-second.second < 31 = c.loop-second-test.true in
    goes_by (λ j. share c.args.offsets.now c.args.first j) c.loop-second.second 31 lt (sym c.if-share.ensures) ∙ c.loop-second.invariant

pub returns-clause-value : goal.returns-clause-value
unfolding shared_with
returns-clause-value c =
    sym (sym c.loop-second.invariant ∙ none_passed (λ j. share c.args.offsets.now c.args.first j) c.loop-second.second 31 c.loop-second-test.false)
