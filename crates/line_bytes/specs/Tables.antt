-- Names with numbers, each name once.
use Rattle.std.specs.Prelude.{ℕ, List, [], ◌∷◌, ◌++◌, Option, None, Some, is_some, if◌then◌else◌}
use Rattle.std.specs.List.{position}
use Rattle.std.specs.Str.{bytes_eq}
use Rattle.std.specs.Map.{keys_of, lookup}

abbrev pub Rows : Type 0
Rows = List (List ℕ × ℕ)

-- the place of a name, from 0
abbrev pub place_of : Rows → List ℕ → Option ℕ
place_of rows name = position (bytes_eq name) (keys_of rows)

abbrev pub as_row : Option ℕ → Option ℕ → Option (ℕ × ℕ)
as_row (Some place) (Some number) = Some (place, number)
as_row place number = None

-- the place and the number of a name
unfoldable pub row_of : Rows → List ℕ → Option (ℕ × ℕ)
row_of rows name = as_row (place_of rows name) (lookup (bytes_eq name) rows)

-- a name that is there keeps its number, and a new one stands last
unfoldable pub with_row : Rows → List ℕ → ℕ → Rows
with_row rows name number = if is_some (place_of rows name) then rows else rows ++ (name, number) ∷ []
