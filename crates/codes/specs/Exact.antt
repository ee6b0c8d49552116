-- What it is that a code's reader is exact. (The project's own.)
use Rattle.std.specs.Prelude.{ℕ, suc, ◌≡◌, ◌<◌, ◌≤◌, ◌^◌, List, ◌∷◌, ◌++◌, length, Ok, Err}
use Rattle.std.specs.List.{AllByRecursion}
use Rattle.codes.specs.Codes.{Code, Read}
use Rattle.codes.specs.declared.Stop.TheVariants.{Outside, More}

-- each is a byte
abbrev pub AreBytes : List ℕ → Type 0
AreBytes bytes = AllByRecursion (λ b. b < 2 ^ 8) bytes

-- a value was read: a front of the bytes spells it
pub record IsRead {A : Type 0} (c : Code A) (bytes : List ℕ) (v : A) (rest : List ℕ) : Type 0 where
  pub front : List ℕ
  pub spelled : c.spells front v
  pub parts : bytes ≡ front ++ rest

-- more is needed: something that is spelled begins with the bytes and is longer
pub record IsLonger {A : Type 0} (c : Code A) (bytes : List ℕ) : Type 0 where
  pub rest : List ℕ
  pub value : A
  pub some : 0 < length rest
  pub spelled : c.spells (bytes ++ rest) value

-- nothing goes on at the byte behind the front: more was needed before it, and whatever is behind it changes nothing
pub record IsStopped {A : Type 0} (c : Code A) (bytes : List ℕ) (left : ℕ) : Type 0 where
  pub front : List ℕ
  pub stop : ℕ
  pub back : List ℕ
  pub parts : bytes ≡ front ++ stop ∷ back
  pub long : left ≡ suc (length back)
  pub before : c.read front ≡ Err More
  pub after : (others : List ℕ) → c.read (front ++ stop ∷ others) ≡ Err (Outside (suc (length others)))

abbrev pub Tells : {A : Type 0} → Code A → List ℕ → Read A → Type 0
Tells c bytes (Ok x) = IsRead c bytes x.0 x.1
Tells c bytes (Err More) = IsLonger c bytes
Tells c bytes (Err (Outside left)) = IsStopped c bytes left

-- What is spelled is read, whatever is behind it; and what the reader says is true.
pub record Exact {A : Type 0} (c : Code A) : Type 0 where
  pub whole : (bytes : List ℕ) (v : A) (rest : List ℕ) → c.spells bytes v → c.read (bytes ++ rest) ≡ Ok (v, rest)
  pub tells : (bytes : List ℕ) → AreBytes bytes → Tells c bytes (c.read bytes)

-- what is spelled has so many bytes at most
pub record IsAtMost {A : Type 0} (c : Code A) (n : ℕ) : Type 0 where
  pub bound : (bytes : List ℕ) (v : A) → c.spells bytes v → length bytes ≤ n
