use Rattle.std.proofs.Common.{◌≡◌, length}
use Rattle.inf_text.specs.Quotes.{trimmed_start}
use Rattle.inf_text.proofs.quotes.trimmed_start.Given as goal

abbrev pub invariant-loop-chars : goal.invariant-loop-chars
invariant-loop-chars l = trimmed_start l.chars ≡ trimmed_start l.fn.chars

abbrev pub decreases-loop-chars : goal.decreases-loop-chars
decreases-loop-chars l = length l.chars
