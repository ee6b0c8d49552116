-- The rows by their numbers, as the code has them.
use Rattle.std.proofs.Common.{◌≡◌, ℕ, ◌-◌, ◌<◌, List, length, map, get_or, sym, ap, ◌∙◌}
use Rattle.std.proofs.lemmas.List.{get_or-map, length-map}
use Rattle.import_table.specs.Table.{Row, rows, row_of, no_row, seen}
use Rattle.import_table.specs.declared.rows.ImportRow as code

pub found : (xs : List code.ImportRow) (n : ℕ) (d : code.ImportRow) → map seen xs ≡ rows → n - 1 < length xs → seen (get_or xs (n - 1) d) ≡ row_of n
unfolding row_of
found xs n d h lt = sym (get_or-map seen xs (n - 1) d no_row lt) ∙ ap (λ (ks : List Row). get_or ks (n - 1) no_row) h

pub length_rows : (xs : List code.ImportRow) → map seen xs ≡ rows → length xs ≡ 64
unfolding rows
length_rows xs h = sym (length-map xs seen) ∙ ap length h
