use Rattle.binding.proofs.Bursts.{Walked}
use Rattle.binding.proofs.section.taking_effect.Given as goal

abbrev pub invariant-loop-passed : goal.invariant-loop-passed
invariant-loop-passed l = Walked l.has l.hold l.lines l.passed l.holds
