-- How a table holds its names.
use Rattle.std.specs.Prelude.{ℕ, List, map, Vec}
use Rattle.std.specs.declared.alloc.Global.{Global}

abbrev pub row_in : Vec ℕ Global × ℕ → List ℕ × ℕ
row_in e = (e.0.items, e.1)

abbrev pub rows_in : List (Vec ℕ Global × ℕ) → List (List ℕ × ℕ)
rows_in es = map row_in es
