use Rattle.std.proofs.Common.{◌≡◌, ◌-◌, ◌+◌}
use Rattle.nd_base.specs.LayoutText.{first_from}
use Rattle.nd_base.specs.LayoutReading.{share}
use Rattle.nd_base.proofs.layout.shared_with.Given as goal

abbrev pub invariant-loop-second : goal.invariant-loop-second
invariant-loop-second l = first_from (λ j. share l.offsets l.first j) l.second (31 - l.second) ≡ first_from (λ j. share l.offsets l.first j) (l.first + 1) (31 - (l.first + 1))
