use Rattle.std.proofs.Common.{◌≡◌, ◌≤◌, length}
use Rattle.log_fields.specs.Codes.{read_digits}
use Rattle.log_fields.proofs.scalars.digits.Given as goal

abbrev pub invariant-loop-byte : goal.invariant-loop-byte
invariant-loop-byte l = (read_digits l.max l.number l.rest ≡ read_digits l.max l.first l.bytes) × (l.number ≤ l.max)

abbrev pub decreases-loop-byte : goal.decreases-loop-byte
decreases-loop-byte l = length l.rest
