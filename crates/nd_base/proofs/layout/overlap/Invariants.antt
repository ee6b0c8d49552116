use Rattle.std.proofs.Common.{◌≡◌, ◌-◌}
use Rattle.std.specs.Option.{is_some}
use Rattle.nd_base.specs.LayoutText.{first_from}
use Rattle.nd_base.specs.LayoutReading.{shared_with}
use Rattle.nd_base.proofs.layout.overlap.Given as goal

abbrev pub invariant-loop-first : goal.invariant-loop-first
invariant-loop-first l = first_from (λ i. is_some (shared_with l.offsets i)) l.first (31 - l.first) ≡ first_from (λ i. is_some (shared_with l.offsets i)) 0 31
