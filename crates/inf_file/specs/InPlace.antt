-- What is left of a text behind a front, as names are compared without memory. What a file says does not rest on these words.
use Rattle.std.specs.Prelude.{ℕ, List, length, take, drop, Option, None, Some, if◌then◌else◌}
use Rattle.inf_text.specs.Names.{is_same}

-- without ASCII case
unfoldable pub behind : List ℕ → Option (List ℕ) → Option (List ℕ)
behind front None = None
behind front (Some text) = if is_same front (take (length front) text) then Some (drop (length front) text) else None
