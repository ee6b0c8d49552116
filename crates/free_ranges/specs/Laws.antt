-- Laws of free ranges.
use Rattle.std.specs.Prelude.{ℕ, List, slice_index}
use Rattle.free_ranges.specs.Ranges.{IsWithin, Fits, Takes, Gives, AreTaken}

pub record RangeLaws : Type 0 where
  -- a range that can still be taken, and so each that is taken later, shares no unit with one that is taken
  pub apart : (lengths : List ℕ) (first n other m : ℕ) → AreTaken (slice_index lengths) first n → Fits (slice_index lengths) m other → (k : ℕ) → IsWithin first n k → IsWithin other m k → ⊥
  -- what is taken is not free
  pub taken : (before after : List ℕ) (first n : ℕ) → Takes before after first n → AreTaken (slice_index after) first n
  -- it stays so when another range is taken
  pub stays : (before after : List ℕ) (first n other m : ℕ) → AreTaken (slice_index before) other m → Takes before after first n → AreTaken (slice_index after) other m
  -- and when another one is given back that shares no unit with it
  pub stays_beside : (before after : List ℕ) (first n other m : ℕ) → AreTaken (slice_index before) other m → Gives before after first n → ((k : ℕ) → IsWithin first n k → IsWithin other m k → ⊥) → AreTaken (slice_index after) other m
  -- what is given back is free
  pub given : (before after : List ℕ) (first n : ℕ) → Gives before after first n → Fits (slice_index after) n first
