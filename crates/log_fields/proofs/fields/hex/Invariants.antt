use Rattle.std.proofs.Common.{◌≡◌, length}
use Rattle.log_fields.specs.Codes.{read_hex, with_front}
use Rattle.log_fields.proofs.fields.hex.Given as goal

abbrev pub invariant-loop-high : goal.invariant-loop-high
invariant-loop-high l = with_front l.octets (read_hex l.rest) ≡ read_hex l.bytes

abbrev pub decreases-loop-high : goal.decreases-loop-high
decreases-loop-high l = length l.rest
