use Rattle.std.proofs.Common.{◌≡◌}
use Rattle.dpc_timer_tests.proofs.tests.arms_many.Given as goal

abbrev pub invariant-loop-n : goal.invariant-loop-n
invariant-loop-n l = l.clock.clock ≡ l.fn.clock.clock
