use Rattle.std.proofs.Common.{◌≡◌, drop}
use Rattle.log_fields.specs.Codes.{find}
use Rattle.log_fields.specs.Names.{what_name}
use Rattle.log_fields.proofs.names.find_what_in.Given as goal

abbrev pub invariant-loop-item : goal.invariant-loop-item
invariant-loop-item l = find what_name (drop l.item-index l.all) l.name ≡ find what_name l.all l.name
