use Rattle.std.proofs.Common.{◌≡◌, ◌≤◌, ◌+◌, ◌^◌, length}
use Rattle.std.specs.Str.Lines.{lines}
use Rattle.driver_script.specs.Reading.{start, first_outside}
use Rattle.driver_script.proofs.front.first_outside.Given as goal

abbrev pub invariant-loop-rest : goal.invariant-loop-rest
invariant-loop-rest l = record { so_far : first_outside l.number l.front (lines l.rest) ≡ first_outside 1 start (lines l.text); inside : l.number + length l.rest ≤ 2 ^ 20 + 1 }

abbrev pub decreases-loop-rest : goal.decreases-loop-rest
decreases-loop-rest l = length l.rest
