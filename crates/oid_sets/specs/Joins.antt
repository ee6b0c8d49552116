-- Addresses, each once.
use Rattle.std.specs.Prelude.{ℕ, if◌then◌else◌, List, [], ◌∷◌, ◌++◌}
use Rattle.std.specs.List.{list_any}
use Rattle.std.specs.Str.{bytes_eq}

-- an address behind those that are there, if it is none of them
abbrev pub added : List (List ℕ) → List ℕ → List (List ℕ)
added there x = if list_any (bytes_eq x) there then there else there ++ x ∷ []

-- some addresses, one after the other
unfoldable pub all_added : List (List ℕ) → List (List ℕ) → List (List ℕ)
all_added there [] = there
all_added there (x ∷ xs) = all_added (added there x) xs
