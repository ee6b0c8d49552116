use Rattle.std.proofs.Common.{◌≡◌, drop}
use Rattle.log_fields.specs.Codes.{find}
use Rattle.driver_script.specs.Keywords.{until_name}
use Rattle.driver_script.proofs.keywords.find_until_in.Given as goal

abbrev pub invariant-loop-until : goal.invariant-loop-until
invariant-loop-until l = find until_name (drop l.until-index l.all) l.name ≡ find until_name l.all l.name
