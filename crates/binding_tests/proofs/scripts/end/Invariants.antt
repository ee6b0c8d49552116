use Rattle.std.proofs.Common.{length}
use Rattle.binding_tests.proofs.scripts.end.Given as goal

abbrev pub decreases-loop-loan : goal.decreases-loop-loan
decreases-loop-loan l = length l.last.kept
