-- The free ranges of a row of units. A free range is as long as can be: the unit before it, and the one behind it, is not free or not there. Of each
-- unit it is known how long the free range is that begins there, and how long the one that ends in front of it, 0 where there is none (boundary
-- tags: Knuth, The Art of Computer Programming volume 1, "Dynamic Storage Allocation").
use Rattle.std.specs.Prelude.{◌≡◌, ◌≤◌, ◌<◌, ◌⊎◌, ℕ, ◌+◌, ◌-◌, ◌^◌, List, length, slice_index, Option, None, Some}

-- the length at each unit
abbrev pub Lengths : Type 0
Lengths = ℕ → ℕ

-- how many units there are, in the list of the lengths
abbrev pub units : List ℕ → ℕ
units lengths = length lengths

-- the free ranges end in the row, and no two overlap or touch
pub record AreRanges (units : ℕ) (lengths : Lengths) : Type 0 where
  pub inside : (u : ℕ) → 0 < lengths u → u + lengths u ≤ units
  pub apart : (u v : ℕ) → u < v → 0 < lengths u → 0 < lengths v → u + lengths u < v

-- the same ranges are known by where they begin and by where they end
pub record EndsMatch (lengths ends : Lengths) : Type 0 where
  pub back : (e : ℕ) → 0 < ends e → (ends e ≤ e) × (lengths (e - ends e) ≡ ends e)
  pub forth : (u : ℕ) → 0 < lengths u → ends (u + lengths u) ≡ lengths u

pub record AreKept (lengths ends : List ℕ) : Type 0 where
  pub small : units lengths ≤ 2 ^ 30
  pub ranges : AreRanges (units lengths) (slice_index lengths)
  pub match : EndsMatch (slice_index lengths) (slice_index ends)
  pub ends_size : length ends ≡ units lengths + 1

-- a unit is free: it is one of the range that begins at a unit
pub record IsFree (lengths : Lengths) (unit : ℕ) : Type 0 where
  pub first : ℕ
  pub from : first ≤ unit
  pub to : unit < first + lengths first

-- the units of a range
pub record IsWithin (first length unit : ℕ) : Type 0 where
  pub from : first ≤ unit
  pub to : unit < first + length

-- n units from one on are free
abbrev pub Fits : Lengths → ℕ → ℕ → Type 0
Fits lengths n unit = (k : ℕ) → IsWithin unit n k → IsFree lengths k

-- a unit from which on n are free, where a free range begins; or none where there is no such unit
abbrev pub IsFit : Lengths → ℕ → Option ℕ → Type 0
IsFit lengths n None = (unit : ℕ) → Fits lengths n unit → ⊥
IsFit lengths n (Some unit) = Fits lengths n unit × (n ≤ lengths unit)

-- and from no unit in front of it on are n free
abbrev pub IsFirstFit : Lengths → ℕ → Option ℕ → Type 0
IsFirstFit lengths n None = Unit {0}
IsFirstFit lengths n (Some unit) = (before : ℕ) → before < unit → Fits lengths n before → ⊥

-- only units of the row are free
abbrev pub AreInside : List ℕ → Type 0
AreInside lengths = (k : ℕ) → IsFree (slice_index lengths) k → k < units lengths

-- a row of so many units, and all are free
pub record AllFree (count : ℕ) (lengths : List ℕ) : Type 0 where
  pub size : units lengths ≡ count
  pub free : (k : ℕ) → k < count → IsFree (slice_index lengths) k

-- the units of one range are no longer free, and all others are as they were
pub record Takes (before after : List ℕ) (first length : ℕ) : Type 0 where
  pub size : units after ≡ units before
  pub inside : first + length ≤ units before
  pub kept : (k : ℕ) → IsFree (slice_index after) k → IsFree (slice_index before) k
  pub taken : (k : ℕ) → IsFree (slice_index after) k → IsWithin first length k → ⊥
  pub others : (k : ℕ) → IsFree (slice_index before) k → IsWithin first length k ⊎ IsFree (slice_index after) k

-- the units of one range are free now, and all others are as they were
pub record Gives (before after : List ℕ) (first length : ℕ) : Type 0 where
  pub size : units after ≡ units before
  pub given : (k : ℕ) → IsWithin first length k → IsFree (slice_index after) k
  pub kept : (k : ℕ) → IsFree (slice_index before) k → IsFree (slice_index after) k
  pub others : (k : ℕ) → IsFree (slice_index after) k → IsWithin first length k ⊎ IsFree (slice_index before) k

-- no unit of a range is free
abbrev pub AreTaken : Lengths → ℕ → ℕ → Type 0
AreTaken lengths first length = (k : ℕ) → IsWithin first length k → IsFree lengths k → ⊥
