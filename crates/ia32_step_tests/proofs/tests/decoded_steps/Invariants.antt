use Rattle.std.proofs.Common.{◌-◌}
use Rattle.ia32_step.specs.Decodings.{Keeps}
use Rattle.ia32_step_tests.proofs.tests.decoded_steps.Given as goal

abbrev pub invariant-loop-count : goal.invariant-loop-count
invariant-loop-count l = Keeps l.decodings l.m

abbrev pub decreases-loop-count : goal.decreases-loop-count
decreases-loop-count l = l.n - l.count
