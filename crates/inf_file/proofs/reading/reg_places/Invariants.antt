use Rattle.std.proofs.Common.{◌≡◌, map, take}
use Rattle.inf_file.specs.Keyed.{string_in}
use Rattle.inf_file.specs.Parameters.{reg_places}
use Rattle.inf_file.proofs.reading.reg_places.Given as goal

abbrev pub invariant-loop-directive : goal.invariant-loop-directive
invariant-loop-directive l = l.places.items ≡ reg_places (string_in l.source.strings.now) l.source.inf.now (map (λ x. x.now) (take l.directive-index l.directives))
