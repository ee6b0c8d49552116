use Rattle.std.proofs.Common.{◌≡◌, ◌++◌, drop, map}
use Rattle.log_fields.specs.Codes.{more_text}
use Rattle.log_fields.specs.Fields.{write, write_of}
use Rattle.log_fields.proofs.field_text.more_writes.Given as goal

abbrev pub invariant-loop-each : goal.invariant-loop-each
invariant-loop-each l = l.out ++ more_text write (map write_of (drop l.each-index l.writes)) ≡ l.fn.out ++ more_text write (map write_of l.writes)
