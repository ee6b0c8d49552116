use Rattle.std.proofs.Common.{◌≡◌, ◌++◌, drop}
use Rattle.log_fields.specs.Codes.{hex}
use Rattle.log_fields.proofs.field_text.octets.Given as goal

abbrev pub invariant-loop-byte : goal.invariant-loop-byte
invariant-loop-byte l = l.out ++ hex (drop l.byte-index l.bytes) ≡ l.fn.out ++ hex l.bytes
