use Rattle.std.proofs.Common.{◌≡◌, drop}
use Rattle.log_fields.specs.Codes.{find}
use Rattle.log_fields.specs.Names.{handler_name}
use Rattle.log_fields.proofs.names.find_handler_in.Given as goal

abbrev pub invariant-loop-item : goal.invariant-loop-item
invariant-loop-item l = find handler_name (drop l.item-index l.all) l.name ≡ find handler_name l.all l.name
