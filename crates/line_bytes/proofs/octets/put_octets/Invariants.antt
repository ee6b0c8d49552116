use Rattle.std.proofs.Common.{◌≡◌, ◌++◌, length}
use Rattle.asm_lines.specs.Values.{octets_of}
use Rattle.line_bytes.proofs.octets.put_octets.Given as goal

abbrev pub invariant-loop-high : goal.invariant-loop-high
invariant-loop-high l = l.out ++ octets_of l.rest ≡ l.initial.out ++ octets_of l.fn.digits

abbrev pub decreases-loop-high : goal.decreases-loop-high
decreases-loop-high l = length l.rest
