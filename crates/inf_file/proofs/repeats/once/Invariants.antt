use Rattle.std.proofs.Common.{◌≡◌, ◌++◌}
use Rattle.inf_file.specs.Repeats.{once}
use Rattle.inf_file.proofs.repeats.once.Given as goal

abbrev pub invariant-loop-place : goal.invariant-loop-place
invariant-loop-place l = l.found.items ++ l.place-iterator ≡ once l.places
