-- Numbers at places, kept as a tournament: the nodes are numbered as in a heap, node n has the greater of the numbers at 2 n and 2 n + 1 (Knuth, The
-- Art of Computer Programming volume 3, "Sorting by Selection", tree selection). The root is node 1, and the leaves are the places.
use Rattle.std.specs.Prelude.{◌≡◌, ◌≢◌, ◌≤◌, ◌<◌, ℕ, ◌+◌, ◌*◌, ◌^◌, max, List, length, slice_index, Option, None, Some}

-- in the list of all nodes, of which 0 is not used, each inner node has the greater number of its two children
pub record IsTournament (places : ℕ) (nodes : List ℕ) : Type 0 where
  pub some : 1 ≤ places
  pub small : places ≤ 2 ^ 30
  pub size : length nodes ≡ 2 * places
  pub wins : (n : ℕ) → 1 ≤ n → n < places → slice_index nodes n ≡ max (slice_index nodes (2 * n)) (slice_index nodes (2 * n + 1))

-- all inner nodes but one do
pub record IsTournamentBut (places : ℕ) (nodes : List ℕ) (hole : ℕ) : Type 0 where
  pub some : 1 ≤ places
  pub small : places ≤ 2 ^ 30
  pub size : length nodes ≡ 2 * places
  pub wins : (n : ℕ) → 1 ≤ n → n < places → n ≢ hole → slice_index nodes n ≡ max (slice_index nodes (2 * n)) (slice_index nodes (2 * n + 1))

-- a place whose number is not below a bound, or none where there is no such place
abbrev pub IsNotBelow : List ℕ → ℕ → Option ℕ → Type 0
IsNotBelow numbers bound None = (place : ℕ) → place < length numbers → slice_index numbers place < bound
IsNotBelow numbers bound (Some place) = (place < length numbers) × (bound ≤ slice_index numbers place)

-- and no place in front of it has such a number
abbrev pub IsFirstNotBelow : List ℕ → ℕ → Option ℕ → Type 0
IsFirstNotBelow numbers bound None = Unit {0}
IsFirstNotBelow numbers bound (Some place) = (before : ℕ) → before < place → slice_index numbers before < bound
