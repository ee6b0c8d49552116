use Rattle.std.proofs.Common.{◌≡◌, ◌++◌, false, map, length}
use Rattle.inf_text.specs.Quotes.{value, parts}
use Rattle.inf_text.proofs.quotes.values.Given as goal

abbrev pub invariant-loop-part : goal.invariant-loop-part
invariant-loop-part l = l.found.items ++ map value (parts false l.rest) ≡ map value (parts false l.chars)

abbrev pub decreases-loop-part : goal.decreases-loop-part
decreases-loop-part l = length l.rest
