-- Text around a separator.
use Rattle.std.specs.Prelude.{ℕ, ◌+◌, ◌==◌, List, take, drop, Option, Some, None}
use Rattle.std.specs.List.{position}

abbrev pub cut_at : List ℕ → Option ℕ → List ℕ × Option (List ℕ)
cut_at bytes None = (bytes, None)
cut_at bytes (Some place) = (take place bytes, Some (drop (place + 1) bytes))

-- what is in front of the first separator, and what is behind it, if it stands there
unfoldable pub cut : ℕ → List ℕ → List ℕ × Option (List ℕ)
cut separator bytes = cut_at bytes (position (λ byte. byte == separator) bytes)
