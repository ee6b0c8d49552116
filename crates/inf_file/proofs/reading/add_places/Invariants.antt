use Rattle.std.proofs.Common.{◌≡◌, ◌++◌, take}
use Rattle.inf_file.specs.Keyed.{string_in}
use Rattle.inf_file.specs.Parameters.{named_places}
use Rattle.inf_file.proofs.reading.add_places.Given as goal

abbrev pub invariant-loop-value : goal.invariant-loop-value
invariant-loop-value l = l.places.items ≡ l.initial.places.items ++ named_places (string_in l.source.strings.now) l.source.inf.now (take l.value-index l.values)
