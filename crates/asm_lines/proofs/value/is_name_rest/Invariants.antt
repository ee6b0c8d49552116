use Rattle.std.proofs.Common.{◌≡◌, length}
use Rattle.asm_lines.specs.Values.{is_name_rest}
use Rattle.asm_lines.proofs.value.is_name_rest.Given as goal

abbrev pub invariant-loop-byte : goal.invariant-loop-byte
invariant-loop-byte l = is_name_rest l.rest ≡ is_name_rest l.fn.bytes

abbrev pub decreases-loop-byte : goal.decreases-loop-byte
decreases-loop-byte l = length l.rest
