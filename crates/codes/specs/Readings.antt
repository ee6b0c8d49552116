-- What bytes are by a code's spelling alone, its reader apart. (The project's own.)
use Rattle.std.specs.Prelude.{ℕ, ◌≡◌, ◌+◌, ◌-◌, ◌<◌, ◌↔◌, List, [], ◌++◌, length, take, Ok, Err}
use Rattle.codes.specs.Codes.{Code, Read}
use Rattle.codes.specs.declared.Stop.TheVariants.{Outside, More}

-- A value and how many bytes at the front spell it; or the index of the first byte at which nothing goes on; or all of the bytes only
-- begin something.
pub data Reading (A : Type 0) : Type 0 where
  Found : A → ℕ → Reading A
  OutsideAt : ℕ → Reading A
  Unfinished : Reading A

-- something begins with these bytes
abbrev pub IsBegun : {A : Type 0} → Code A → List ℕ → Type 0
IsBegun {A} code bytes = (rest : List ℕ) × (v : A) × code.spells (bytes ++ rest) v

-- something begins with these bytes and is longer
abbrev pub IsUnfinished : {A : Type 0} → Code A → List ℕ → Type 0
IsUnfinished {A} code bytes = (rest : List ℕ) × (v : A) × (0 < length rest) × code.spells (bytes ++ rest) v

-- a front of the bytes spells the value, and is so long
pub record IsFound {A : Type 0} (code : Code A) (bytes : List ℕ) (v : A) (size : ℕ) : Type 0 where
  pub front : List ℕ
  pub rest : List ℕ
  pub spelled : code.spells front v
  pub parts : front ++ rest ≡ bytes
  pub long : size ≡ length front

-- something begins with the bytes before the index and is longer, and nothing begins with them and the one at the index
pub record IsOutsideAt {A : Type 0} (code : Code A) (bytes : List ℕ) (index : ℕ) : Type 0 where
  pub within : index < length bytes
  pub before : IsUnfinished code (take index bytes)
  pub none : IsBegun code (take (index + 1) bytes) → ⊥

abbrev pub IsReading : {A : Type 0} → Code A → List ℕ → Reading A → Type 0
IsReading code bytes (Found v size) = IsFound code bytes v size
IsReading code bytes (OutsideAt index) = IsOutsideAt code bytes index
IsReading code bytes Unfinished = IsUnfinished code bytes

-- that is the bytes' reading, and nothing else is
abbrev pub IsOnlyReading : {A : Type 0} → Code A → List ℕ → Reading A → Type 0
IsOnlyReading {A} code bytes reading = (other : Reading A) → (reading ≡ other) ↔ IsReading code bytes other

-- no bytes spell two values, and none that spell one begin others that do
abbrev pub IsPrefixFree : {A : Type 0} → Code A → Type 0
IsPrefixFree {A} code = (front rest bytes : List ℕ) (v w : A) → code.spells front v → code.spells bytes w → bytes ≡ front ++ rest → (rest ≡ []) × (v ≡ w)

-- what a reader says of bytes, with places counted from their front
abbrev pub reading_of : {A : Type 0} → List ℕ → Read A → Reading A
reading_of bytes (Ok x) = Found x.0 (length bytes - length x.1)
reading_of bytes (Err (Outside left)) = OutsideAt (length bytes - left)
reading_of bytes (Err More) = Unfinished
