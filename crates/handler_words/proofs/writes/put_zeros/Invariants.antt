use Rattle.std.proofs.Common.{◌≡◌, ◌++◌, take}
use Rattle.handler_words.specs.Given.{zeros_at}
use Rattle.handler_words.proofs.writes.put_zeros.Given as goal

abbrev pub invariant-loop-at : goal.invariant-loop-at
invariant-loop-at l = l.writes ≡ l.fn.writes ++ zeros_at (take l.at-index l.places)
