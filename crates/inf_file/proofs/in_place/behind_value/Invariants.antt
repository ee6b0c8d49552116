use Rattle.std.proofs.Common.{◌≡◌, length}
use Rattle.std.specs.Option.{option_copied}
use Rattle.inf_file.specs.Strings.{replaced}
use Rattle.inf_file.specs.Parameters.{strings_in}
use Rattle.inf_file.specs.InPlace.{behind}
use Rattle.inf_file.proofs.in_place.behind_value.Given as goal

abbrev pub invariant-loop-plain : goal.invariant-loop-plain
invariant-loop-plain l = behind (replaced (strings_in l.inf) l.rest) (option_copied l.left) ≡ behind (replaced (strings_in l.inf) l.value) (option_copied l.text)

abbrev pub decreases-loop-plain : goal.decreases-loop-plain
decreases-loop-plain l = length l.rest
