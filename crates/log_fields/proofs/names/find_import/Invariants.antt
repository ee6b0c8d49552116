use Rattle.std.proofs.Common.{◌≡◌, ◌-◌, ◌<◌, ◌≤◌}
use Rattle.log_fields.specs.Codes.{find}
use Rattle.log_fields.specs.Names.{import_name, imports_all, counted}
use Rattle.log_fields.proofs.names.find_import.Given as goal

abbrev pub invariant-loop-n : goal.invariant-loop-n
invariant-loop-n l = find import_name (counted l.n (65 - l.n)) l.name ≡ find import_name imports_all l.name
