-- Codes: which bytes spell a value, and how a value is read from the left. (The project's own.)
use Rattle.std.specs.Prelude.{ℕ, suc, ◌≡◌, ◌<◌, ◌^◌, ◌⊎◌, Bool, true, false, List, [], ◌∷◌, ◌++◌, length, Result, Ok, Err, if◌then◌else◌}
use Rattle.codes.specs.declared.Stop.{Stop}
use Rattle.codes.specs.declared.Stop.TheVariants.{Outside, More}

-- What is read: a value and the bytes behind it; else Outside, with how many bytes are left from the first one on at which nothing goes
-- on, or More, where something goes on behind all of them.
abbrev pub Read : Type 0 → Type 0
Read A = Result (A × List ℕ) Stop

abbrev pub and_then : {A B : Type 0} → Read A → (A → List ℕ → Read B) → Read B
and_then (Ok x) f = f x.0 x.1
and_then (Err e) f = Err e

-- A code: which bytes spell a value, and how a value is read from the front of bytes.
pub record Code (A : Type 0) : Type 1 where
  pub spells : List ℕ → A → Type 0
  pub read : List ℕ → Read A

-- ---- the codes that all others are made of

-- No byte spells the value.
abbrev pub done : {A : Type 0} → A → Code A
done a = record {
  spells = λ bytes v. (bytes ≡ []) × (v ≡ a);
  read = λ bytes. Ok (a, bytes);
}

-- Nothing is spelled.
abbrev pub nothing : {A : Type 0} → Code A
nothing = record {
  spells = λ bytes v. ⊥;
  read = λ bytes. Err (Outside (length bytes));
}

-- A byte that passes a test spells itself.
abbrev pub byte_read : (ℕ → Bool) → List ℕ → Read ℕ
byte_read ok [] = Err More
byte_read ok (b ∷ bytes) = if ok b then Ok (b, bytes) else Err (Outside (suc (length bytes)))

abbrev pub byte : (ℕ → Bool) → Code ℕ
byte ok = record {
  spells = λ bytes v. (v < 2 ^ 8) × (ok v ≡ true) × (bytes ≡ v ∷ []);
  read = byte_read ok;
}

-- A byte, and what goes on from it. The test tells the bytes from which something goes on: only the reader asks it.
abbrev pub branch_spells : {A : Type 0} → (ℕ → Code A) → List ℕ → A → Type 0
branch_spells next [] v = ⊥
branch_spells next (b ∷ bytes) v = (b < 2 ^ 8) × (next b).spells bytes v

abbrev pub branch_read : {A : Type 0} → (ℕ → Bool) → (ℕ → Code A) → List ℕ → Read A
branch_read live next [] = Err More
branch_read live next (b ∷ bytes) = if live b then (next b).read bytes else Err (Outside (suc (length bytes)))

abbrev pub branch : {A : Type 0} → (ℕ → Bool) → (ℕ → Code A) → Code A
branch live next = record { spells = branch_spells next; read = branch_read live next }

-- One code where a test holds, else another. (`if` does not take codes.)
abbrev pub either : {A : Type 0} → Bool → Code A → Code A → Code A
either b c d = record {
  spells = λ bytes v. ((b ≡ true) × c.spells bytes v) ⊎ ((b ≡ false) × d.spells bytes v);
  read = λ bytes. if b then c.read bytes else d.read bytes;
}

-- One code, and then one that its value chooses.
infixl 10 ◌>>=◌
abbrev pub ◌>>=◌ : {A B : Type 0} → Code A → (A → Code B) → Code B
◌>>=◌ {A} c f = record {
  spells = λ bytes v. (front : List ℕ) × (x : A) × (back : List ℕ) × c.spells front x × (f x).spells back v × (bytes ≡ front ++ back);
  read = λ bytes. and_then (c.read bytes) (λ x rest. (f x).read rest);
}

-- What a function returned, seen by view, is what is read.
abbrev pub Gives : {X Y : Type 0} → (X → Y) → Result X Stop → Result Y Stop → Type 0
Gives view (Ok x) read = read ≡ Ok (view x)
Gives view (Err e) read = read ≡ Err e
