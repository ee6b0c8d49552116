-- A line that says why a file is refused: words, and the number of a place where there is one. (The project's own texts: docs/PRINTED.md.)
use Rattle.std.specs.Prelude.{ℕ, List, [], ◌∷◌, Option, Some, None}
use Rattle.std.specs.Fmt.{decimal}
use Rattle.nd_base.specs.Text.{line}

abbrev pub refusal_line : List ℕ → Option ℕ → List ℕ
refusal_line words None = line (words ∷ [])
refusal_line words (Some n) = line (words ∷ decimal n ∷ [])
