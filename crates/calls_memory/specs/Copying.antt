-- Bytes of which those from a distance on repeat those in front of them. (ISO C, memcpy, copying from the first byte on where its ranges overlap.)
use Rattle.std.specs.Prelude.{◌≡◌, ◌≤◌, ◌<◌, ℕ, ◌-◌, List, length, slice_index}

pub record Repeats (distance : ℕ) (before after : List ℕ) : Type 0 where
  pub count : length after ≡ length before
  pub front : (k : ℕ) → k < distance → slice_index after k ≡ slice_index before k
  pub behind : (k : ℕ) → distance ≤ k → k < length before → slice_index after k ≡ slice_index after (k - distance)
