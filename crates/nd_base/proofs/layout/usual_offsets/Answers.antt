use Rattle.std.proofs.Common.{◌≡◌, ℕ, ◌<◌, length, get_or, refl, sym, ap, ◌∙◌, inl, inr, arith}
use Rattle.std.proofs.lemmas.Bool.{cases_eq}
use Rattle.std.proofs.lemmas.List.{ext_get_or, get_or-map, get_or-set_same, get_or-set_other, length-map, length-set}
use Rattle.nd_base.specs.Layout as layout
use Rattle.nd_base.specs.Layout.{rows, row, no_row, usual, seen}
use Rattle.nd_base.proofs.layout.usual_offsets.Goals as goal

length_rows : length rows ≡ 31
unfolding rows
length_rows = refl

usual_at : (i : ℕ) → i < 31 → get_or usual i 0 ≡ (row i).offset
unfolding usual row
usual_at i lt = let within : i < length rows = rw length_rows lt in get_or-map (λ (r : layout.Row). r.offset) rows i no_row 0 within

length_usual : length usual ≡ 31
unfolding usual
length_usual = length-map rows (λ (r : layout.Row). r.offset) ∙ length_rows

pub loop-place-preserved : goal.loop-place-preserved
unfolding seen
loop-place-preserved c =
    let offsets = c.loop-place.offsets in
    let place = c.loop-place.place in
    let lt : place < length offsets = rw c.loop-place.invariant.fields c.loop-place-test.true in
    record {
      fields = length-set offsets place c.row_at.result.offset ∙ c.loop-place.invariant.fields;
      set = λ k below. elim (cases_eq k place) [
        | inl same ↦ rw same (get_or-set_same offsets place c.row_at.result.offset 0 lt ∙ ap (λ (r : layout.Row). r.offset) c.row_at.ensures)
        | inr other ↦ get_or-set_other offsets place k c.row_at.result.offset 0 other ∙ c.loop-place.invariant.set k (omega arith)
      ];
    }

pub returns : goal.returns
returns c =
    let offsets = c.loop-place.offsets in
    let fields : length offsets ≡ 31 = c.loop-place.invariant.fields in
    ext_get_or 0 offsets usual (fields ∙ sym length_usual) (λ i lt. c.loop-place.invariant.set i (omega arith) ∙ sym (usual_at i (omega arith)))
