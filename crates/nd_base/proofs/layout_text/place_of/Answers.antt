use Rattle.std.proofs.Common.{◌<◌, sym, ap, ◌∙◌}
use Rattle.std.specs.Str.{bytes_eq}
use Rattle.nd_base.specs.Layout as layout
use Rattle.nd_base.specs.Layout.{row, seen}
use Rattle.nd_base.specs.LayoutText.{place_of}
use Rattle.nd_base.proofs.FirstFrom.{passes, goes_by, none_passed}
use Rattle.nd_base.proofs.layout_text.place_of.Goals as goal

pub returns-then-eq-clause-value : goal.returns-then-eq-clause-value
unfolding place_of seen
returns-then-eq-clause-value c =
    let name = c.args.name.now in
    let lt : c.loop-place.place < 31 = c.loop-place-test.true in
    sym (sym c.loop-place.invariant ∙ passes (λ i. bytes_eq (row i).name name) c.loop-place.place 31 lt (ap (λ (r : layout.Row). bytes_eq r.name name) (sym c.row_at.ensures) ∙ sym c.if-eq.ensures))

pub loop-place-preserved : goal.loop-place-preserved
unfolding seen
loop-place-preserved c =
    let name = c.args.name.now in
    let lt : c.loop-place.place < 31 = c.loop-place-test.true in
    goes_by (λ i. bytes_eq (row i).name name) c.loop-place.place 31 lt (ap (λ (r : layout.Row). bytes_eq r.name name) (sym c.row_at.ensures) ∙ sym c.if-eq.ensures) ∙ c.loop-place.invariant

pub returns-clause-value : goal.returns-clause-value
unfolding place_of
returns-clause-value c =
    let name = c.args.name.now in
    sym (sym c.loop-place.invariant ∙ none_passed (λ i. bytes_eq (row i).name name) c.loop-place.place 31 c.loop-place-test.false)
