-- Tables of rows in the order of their keys. Keys are strings of bytes, in the order of dictionaries, which is Rust's of slices. (The
-- project's own.)
use Rattle.std.specs.Prelude.{ℕ, Bool, true, ◌&&◌, List, [], ◌∷◌, length, ◌<◌, slice_index_or, IsTrue}
use Rattle.std.specs.Ordering.{nat_cmp, is_lt}
use Rattle.std.specs.Cmp.Lexicographic.{slice_cmp}

abbrev pub is_below : List ℕ → List ℕ → Bool
is_below key other = is_lt (slice_cmp nat_cmp key other)

-- each key is below the next
abbrev pub rise_behind : List ℕ → List (List ℕ) → Bool
rise_behind key [] = true
rise_behind key (next ∷ keys) = is_below key next && rise_behind next keys

abbrev pub keys_rise : List (List ℕ) → Bool
keys_rise [] = true
keys_rise (key ∷ keys) = rise_behind key keys

-- each key is below all behind it
abbrev pub Rise : List (List ℕ) → Type 0
Rise keys = (i j : ℕ) → i < j → j < length keys → IsTrue (is_below (slice_index_or keys i []) (slice_index_or keys j []))
