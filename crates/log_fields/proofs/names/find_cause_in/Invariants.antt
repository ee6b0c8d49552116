use Rattle.std.proofs.Common.{◌≡◌, drop}
use Rattle.log_fields.specs.Codes.{find}
use Rattle.log_fields.specs.Names.{cause_name}
use Rattle.log_fields.proofs.names.find_cause_in.Given as goal

abbrev pub invariant-loop-item : goal.invariant-loop-item
invariant-loop-item l = find cause_name (drop l.item-index l.all) l.name ≡ find cause_name l.all l.name
