-- Which charge counts against a budget.
use Rattle.std.specs.Prelude.{◌≡◌, ◌≤◌, ◌<◌, ◌⊎◌, ℕ, List, length, Option, None, Some, slice_index_or}
use Rattle.nd_base.specs.declared.numbers.AdapterNo.{AdapterNo}

-- the largest of some charges, or 0
pub record IsMost (charges : List ℕ) (most : ℕ) : Type 0 where
  pub above : (i : ℕ) → slice_index_or charges i 0 ≤ most
  pub one : (most ≡ 0) ⊎ ((i : ℕ) × ((i < length charges) × (slice_index_or charges i 0 ≡ most)))

-- an adapter's own charge; of DriverEntry, which counts to every adapter, the largest
abbrev pub IsOwn : List ℕ → Option AdapterNo → ℕ → Type 0
IsOwn charges None own = IsMost charges own
IsOwn charges (Some a) own = own ≡ slice_index_or charges a.0 0
