use Rattle.std.proofs.Common.{◌≡◌, length}
use Rattle.asm_lines.specs.Values.{hex_after}
use Rattle.asm_lines.proofs.value.hexadecimal.Given as goal

abbrev pub invariant-loop-byte : goal.invariant-loop-byte
invariant-loop-byte l = hex_after l.number l.rest ≡ hex_after 0 l.fn.digits

abbrev pub decreases-loop-byte : goal.decreases-loop-byte
decreases-loop-byte l = length l.rest
