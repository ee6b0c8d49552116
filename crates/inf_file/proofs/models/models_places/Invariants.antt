use Rattle.std.proofs.Common.{◌≡◌, take}
use Rattle.std.specs.List.{filter_map}
use Rattle.inf_file.specs.Keyed.{string_in}
use Rattle.inf_file.specs.Models.{models_place}
use Rattle.inf_file.proofs.models.models_places.Given as goal

abbrev pub invariant-loop-maker : goal.invariant-loop-maker
invariant-loop-maker l = l.places.items ≡ filter_map (models_place (string_in l.source.strings.now) l.source.inf.now) (take l.maker-index l.makers)
