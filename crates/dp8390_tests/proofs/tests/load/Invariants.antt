use Rattle.std.proofs.Common.{◌≡◌, None}
use Rattle.dp8390_tests.proofs.tests.load.Given as goal

abbrev pub invariant-loop-word : goal.invariant-loop-word
invariant-loop-word l = l.card.sent ≡ None
