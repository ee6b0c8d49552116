-- When a code is exact: what is written is read, and what is read was written so.
use Rattle.std.specs.Prelude.{ℕ, ◌≡◌, ◌≤◌, Bool, true, false, List, [], ◌∷◌, ◌++◌, Some, None}
use Rattle.std.specs.List.{AllByRecursion}
use Rattle.log_fields.specs.Codes.{Code, Read, is_field_end}

-- nothing follows, or what ends it
abbrev pub Ends : (ℕ → Bool) → List ℕ → Type 0
Ends end [] = Unit {0}
Ends end (b ∷ bytes) = end b ≡ true

pub record IsRead {A : Type 0} (c : Code A) (bytes : List ℕ) (v : A) (rest : List ℕ) : Type 0 where
  pub fits : c.fits v
  pub parts : bytes ≡ c.text v ++ rest

abbrev pub Tells : {A : Type 0} → Code A → List ℕ → Read A → Type 0
Tells c bytes (Some x) = IsRead c bytes x.0 x.1
Tells c bytes None = Unit {0}

-- What is written is read, if it ends there. What is read was written so.
pub record Exact {A : Type 0} (end : ℕ → Bool) (c : Code A) : Type 0 where
  pub whole : (v : A) (rest : List ℕ) → c.fits v → Ends end rest → c.read (c.text v ++ rest) ≡ Some (v, rest)
  pub tells : (bytes : List ℕ) → Tells c bytes (c.read bytes)

-- no byte of it ends a field
abbrev pub AreInside : List ℕ → Type 0
AreInside [] = Unit {0}
AreInside (b ∷ bytes) = (is_field_end b ≡ false) × AreInside bytes

-- no byte is a control code of ASCII, which are those below 32, LF (10) and CR (13) among them
abbrev pub ArePrinted : List ℕ → Type 0
ArePrinted bytes = AllByRecursion (λ b. 32 ≤ b) bytes

-- no value that fits is written with a control code
pub record Prints {A : Type 0} (c : Code A) : Type 0 where
  pub printed : (v : A) → c.fits v → ArePrinted (c.text v)
