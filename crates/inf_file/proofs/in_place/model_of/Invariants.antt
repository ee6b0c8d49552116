use Rattle.std.proofs.Common.{◌≡◌, take}
use Rattle.std.specs.Option.{option_copied}
use Rattle.inf_file.specs.Models.{model_of}
use Rattle.inf_file.specs.Parameters.{strings_in}
use Rattle.inf_file.proofs.in_place.model_of.Given as goal

abbrev pub invariant-loop-maker : goal.invariant-loop-maker
invariant-loop-maker l = option_copied l.best ≡ model_of (strings_in l.inf) l.inf (take l.maker-index l.maker-items) l.id
