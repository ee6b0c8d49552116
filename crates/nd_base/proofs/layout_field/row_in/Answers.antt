use Rattle.std.proofs.Common.{◌≡◌, ℕ, ◌<◌, List, length, map, get_or, sym, ap, ◌∙◌}
use Rattle.std.proofs.lemmas.List.{get_or-map, length-map}
use Rattle.nd_base.specs.Layout as layout
use Rattle.nd_base.specs.Layout.{rows, row, no_row, seen}
use Rattle.nd_base.specs.declared.layout_field.Row as code
use Rattle.nd_base.proofs.layout_field.row_in.Goals as goal

found : (xs : List code.Row) (i : ℕ) (d : code.Row) → map seen xs ≡ rows → i < length xs → seen (get_or xs i d) ≡ row i
unfolding row
found xs i d h lt = sym (get_or-map seen xs i d no_row lt) ∙ ap (λ (ks : List layout.Row). get_or ks i no_row) h

length_rows : (xs : List code.Row) → map seen xs ≡ rows → length xs ≡ 31
unfolding rows
length_rows xs h = sym (length-map xs seen) ∙ ap length h

pub returns : goal.returns
returns c = let lt : c.args.place < length c.args.table.now = rw (length_rows c.args.table.now c.requires.table) c.requires.place in found c.args.table.now c.args.place _ c.requires.table lt
