use Rattle.std.proofs.Common.{◌≡◌, map, take}
use Rattle.inf_file.specs.Parameters.{lines_of_all}
use Rattle.inf_file.proofs.lines.lines_of_all.Given as goal

abbrev pub invariant-loop-place : goal.invariant-loop-place
invariant-loop-place l = map (λ x. x.now) l.found.items ≡ lines_of_all l.source.inf.now (take l.place-index l.places)
