use Rattle.std.proofs.Common.{◌≡◌, length}
use Rattle.inf_file.specs.Keyed.{string_in}
use Rattle.inf_file.specs.Models.{decorated_place}
use Rattle.inf_file.proofs.models.decorated_place.Given as goal

abbrev pub invariant-loop-decorations : goal.invariant-loop-decorations
invariant-loop-decorations l = decorated_place (string_in l.source.strings.now) l.source.inf.now l.name l.decorations ≡ decorated_place (string_in l.source.strings.now) l.source.inf.now l.name l.fn.decorations

abbrev pub decreases-loop-decorations : goal.decreases-loop-decorations
decreases-loop-decorations l = length l.decorations
