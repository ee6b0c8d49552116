use Rattle.std.proofs.Common.{◌≡◌, take}
use Rattle.inf_file.specs.Repeats.{once}
use Rattle.inf_file.proofs.repeats.once_set.Given as goal

abbrev pub invariant-loop-place : goal.invariant-loop-place
invariant-loop-place l = l.seen.keys ≡ once (take l.place-index l.places)
