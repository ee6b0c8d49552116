use Rattle.std.proofs.Common.{◌≡◌, drop, length}
use Rattle.inf_file.specs.Strings.{replaced}
use Rattle.inf_file.specs.Models.{decorated_place}
use Rattle.inf_file.specs.Parameters.{strings_in}
use Rattle.inf_file.proofs.in_place.models_place.Given as goal

abbrev pub invariant-loop-decorations : goal.invariant-loop-decorations
invariant-loop-decorations l = decorated_place (strings_in l.inf) l.inf (replaced (strings_in l.inf) l.value) l.decorations ≡ decorated_place (strings_in l.inf) l.inf (replaced (strings_in l.inf) l.value) (drop 1 l.fn.maker.values)

abbrev pub decreases-loop-decorations : goal.decreases-loop-decorations
decreases-loop-decorations l = length l.decorations
