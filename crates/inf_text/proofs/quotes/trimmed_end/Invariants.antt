use Rattle.std.proofs.Common.{◌≡◌, ◌≤◌, take, length}
use Rattle.inf_text.specs.Quotes.{trimmed_end}
use Rattle.inf_text.proofs.quotes.trimmed_end.Given as goal

abbrev pub invariant-loop-end : goal.invariant-loop-end
invariant-loop-end l = record {
  within : l.end ≤ length l.chars;
  same : trimmed_end (take l.end l.chars) ≡ trimmed_end l.chars;
}

abbrev pub decreases-loop-end : goal.decreases-loop-end
decreases-loop-end l = l.end
