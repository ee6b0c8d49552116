use Rattle.std.proofs.Common.{◌≡◌, ◌-◌, length, map}
use Rattle.log_fields.specs.Codes.{read_more, with_front}
use Rattle.log_fields.specs.Fields.{write, write_of}
use Rattle.log_fields.proofs.fields.more_writes.Given as goal

abbrev pub invariant-loop : goal.invariant-loop
invariant-loop l = with_front (map write_of l.writes) (read_more write (length l.bytes - l.counter) l.rest) ≡ with_front (map write_of l.fn.writes) (read_more write (length l.bytes) l.bytes)
