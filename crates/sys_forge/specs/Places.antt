-- How the words by which two byte strings differ are found.
use Rattle.std.specs.Prelude.{ℕ, ◌≡◌, ◌≤◌, ◌⊎◌, ◌==◌, List, [], ◌∷◌, ◌++◌, length, take, if◌then◌else◌}
use Rattle.sys_forge.specs.Moved.{word_moved}

abbrev pub noted : List ℕ → ℕ → ℕ → List ℕ
noted places at size = if size == 4 then places ++ at ∷ [] else places

-- both begin with the same byte
pub record IsSame (bytes others : List ℕ) (size : ℕ) : Type 0 where
  pub one : size ≡ 1
  pub bytes_long : 1 ≤ length bytes
  pub others_long : 1 ≤ length others
  pub same : take 1 bytes ≡ take 1 others

-- both begin with a word, which is moved in the others
pub record IsMovedWord (bytes others : List ℕ) (size : ℕ) : Type 0 where
  pub four : size ≡ 4
  pub bytes_long : 4 ≤ length bytes
  pub others_long : 4 ≤ length others
  pub moved : take 4 others ≡ word_moved bytes

abbrev pub IsStep : List ℕ → List ℕ → ℕ → Type 0
IsStep bytes others size = IsSame bytes others size ⊎ IsMovedWord bytes others size
