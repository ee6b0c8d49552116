use Rattle.std.proofs.Common.{◌≡◌, ◌≤◌, ◌+◌, length}
use Rattle.std.specs.Str.Lines.{lines}
use Rattle.nd_base.specs.LayoutReading.{behind_lines, nothing}
use Rattle.nd_base.proofs.layout.behind_lines.Given as goal

abbrev pub invariant-loop-rest : goal.invariant-loop-rest
invariant-loop-rest l = record { so_far : behind_lines l.number l.known (lines l.rest) ≡ behind_lines 1 nothing (lines l.text); inside : l.number + length l.rest ≤ 65537 }

abbrev pub decreases-loop-rest : goal.decreases-loop-rest
decreases-loop-rest l = length l.rest
