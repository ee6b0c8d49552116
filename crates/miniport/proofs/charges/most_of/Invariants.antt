use Rattle.std.proofs.Common.{◌≡◌, ◌≤◌, ◌<◌, ◌⊎◌, ℕ, length, slice_index_or}
use Rattle.miniport.proofs.charges.most_of.Given as goal

abbrev pub invariant-loop-charge : goal.invariant-loop-charge
invariant-loop-charge l =
    ((i : ℕ) → i < l.charge-index → slice_index_or l.charges i 0 ≤ l.most)
    × ((l.most ≡ 0) ⊎ ((i : ℕ) × ((i < length l.charges) × (slice_index_or l.charges i 0 ≡ l.most))))
