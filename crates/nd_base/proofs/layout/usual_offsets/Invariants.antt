use Rattle.std.proofs.Common.{◌≡◌, ℕ, ◌<◌, length, get_or}
use Rattle.nd_base.specs.Layout.{row}
use Rattle.nd_base.proofs.layout.usual_offsets.Given as goal

abbrev pub invariant-loop-place : goal.invariant-loop-place
invariant-loop-place l = record { fields : length l.offsets ≡ 31; set : (k : ℕ) → k < l.place → get_or l.offsets k 0 ≡ (row k).offset }
