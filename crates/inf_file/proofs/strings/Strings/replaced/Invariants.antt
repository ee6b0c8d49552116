use Rattle.std.proofs.Common.{◌≡◌, ◌++◌, length}
use Rattle.inf_file.specs.Keyed.{string_in}
use Rattle.inf_file.specs.Strings.{replaced}
use Rattle.inf_file.proofs.strings.Strings.replaced.Given as goal

abbrev pub invariant-loop-plain : goal.invariant-loop-plain
invariant-loop-plain l = l.out ++ replaced (string_in l.self) l.rest ≡ replaced (string_in l.self) l.text

abbrev pub decreases-loop-plain : goal.decreases-loop-plain
decreases-loop-plain l = length l.rest
