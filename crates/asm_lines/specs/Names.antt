-- Names as the tables of the code hold them: eight bytes, with blanks behind the name.
use Rattle.std.specs.Prelude.{ℕ, Bool, true, false, ◌==◌, ◌&&◌, List, [], ◌∷◌}

-- the word is the name that stands in front of blanks
unfoldable pub is_named : List ℕ → List ℕ → Bool
is_named [] [] = true
is_named [] (b ∷ bs) = false
is_named (c ∷ cs) [] = c == 32
is_named (c ∷ cs) (b ∷ bs) = (c == b) && is_named cs bs
