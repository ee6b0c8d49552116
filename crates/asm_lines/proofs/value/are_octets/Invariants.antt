use Rattle.std.proofs.Common.{◌≡◌, length}
use Rattle.asm_lines.specs.Values.{are_octets}
use Rattle.asm_lines.proofs.value.are_octets.Given as goal

abbrev pub invariant-loop-high : goal.invariant-loop-high
invariant-loop-high l = are_octets l.rest ≡ are_octets l.fn.digits

abbrev pub decreases-loop-high : goal.decreases-loop-high
decreases-loop-high l = length l.rest
