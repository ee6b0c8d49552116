use Rattle.std.proofs.Common.{◌≡◌, ◌++◌, drop, map}
use Rattle.log_fields.specs.Codes.{more_text}
use Rattle.log_fields.specs.Fields.{small}
use Rattle.log_fields.proofs.field_text.more_holders.Given as goal

abbrev pub invariant-loop-holder : goal.invariant-loop-holder
invariant-loop-holder l = l.out ++ more_text small (map (λ h. h.0) (drop l.holder-index l.holders)) ≡ l.fn.out ++ more_text small (map (λ h. h.0) l.holders)
