use Rattle.std.proofs.Common.{◌≡◌, false, take}
use Rattle.std.specs.List.{list_any}
use Rattle.inf_file.specs.Keyed.{string_in}
use Rattle.inf_file.specs.Strings.{lacks_string}
use Rattle.inf_file.proofs.strings.Strings.values_lack.Given as goal

abbrev pub invariant-loop-value : goal.invariant-loop-value
invariant-loop-value l = list_any (lacks_string (string_in l.self)) (take l.value-index l.values) ≡ false
