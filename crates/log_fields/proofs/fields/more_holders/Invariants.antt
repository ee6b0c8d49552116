use Rattle.std.proofs.Common.{◌≡◌, ◌-◌, length, map}
use Rattle.log_fields.specs.Codes.{read_more, with_front}
use Rattle.log_fields.specs.Fields.{small}
use Rattle.log_fields.proofs.fields.more_holders.Given as goal

abbrev pub invariant-loop : goal.invariant-loop
invariant-loop l = with_front (map (λ h. h.0) l.holders) (read_more small (length l.bytes - l.counter) l.rest) ≡ with_front (map (λ h. h.0) l.fn.holders) (read_more small (length l.bytes) l.bytes)
