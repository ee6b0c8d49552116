use Rattle.std.proofs.Common.{◌<◌, sym, ap, ◌∙◌}
use Rattle.std.specs.Option.{is_some}
use Rattle.nd_base.specs.Layout as layout
use Rattle.nd_base.specs.Layout.{seen}
use Rattle.nd_base.specs.LayoutReading.{shared_with, first_shared, overlap_of}
use Rattle.nd_base.proofs.FirstFrom.{passes, goes_by, none_passed}
use Rattle.nd_base.proofs.LayoutLines.{pair_is, some_is, none_is}
use Rattle.nd_base.proofs.layout.overlap.Goals as goal

pub returns-in-Some : goal.returns-in-Some
unfolding first_shared seen
returns-in-Some c =
    let o = c.args.offsets.now in
    let i = c.loop-first.first in
    let lt : c.loop-first.first < 31 = c.loop-first-test.true in
    pair_is o i c.in-Some.second c.row_at.result.field c.row_at-in-Some.result.field
    (sym c.loop-first.invariant ∙ passes (λ k. is_some (shared_with o k)) i 31 lt (some_is o i c.in-Some.second (sym c.in-Some.ensures.value)))
    (sym c.in-Some.ensures.value)
    (ap (λ (r : layout.Row). r.field) c.row_at.ensures) (ap (λ (r : layout.Row). r.field) c.row_at-in-Some.ensures)

pub loop-first-preserved : goal.loop-first-preserved
loop-first-preserved c =
    let o = c.args.offsets.now in
    let i = c.loop-first.first in
    let lt : c.loop-first.first < 31 = c.loop-first-test.true in
    goes_by (λ k. is_some (shared_with o k)) i 31 lt (none_is o i (sym c.in-None.ensures.value)) ∙ c.loop-first.invariant

pub returns : goal.returns
unfolding first_shared
returns c =
    let o = c.args.offsets.now in
    sym (ap (overlap_of o) (sym c.loop-first.invariant ∙ none_passed (λ k. is_some (shared_with o k)) c.loop-first.first 31 c.loop-first-test.false))
