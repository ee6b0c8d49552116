use Rattle.std.proofs.Common.{◌≡◌, drop}
use Rattle.log_fields.specs.Codes.{find}
use Rattle.call_log.specs.Kinds.{kind_name}
use Rattle.call_log.proofs.kinds.find_kind_in.Given as goal

abbrev pub invariant-loop-item : goal.invariant-loop-item
invariant-loop-item l = find kind_name (drop l.item-index l.all) l.name ≡ find kind_name l.all l.name
