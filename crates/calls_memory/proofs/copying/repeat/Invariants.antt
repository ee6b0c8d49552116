use Rattle.std.proofs.Common.{◌≡◌, ◌≤◌, ◌<◌, ℕ, ◌-◌, get_or}
use Rattle.calls_memory.proofs.copying.repeat.Given as goal

abbrev pub invariant-loop-place : goal.invariant-loop-place
invariant-loop-place l = record {
  front : (k : ℕ) → k < l.distance → get_or l.bytes k 0 ≡ get_or l.initial.bytes k 0;
  behind : (k : ℕ) → l.distance ≤ k → k < l.place → get_or l.bytes k 0 ≡ get_or l.bytes (k - l.distance) 0;
}
