use Rattle.std.proofs.Common.{◌≡◌, drop}
use Rattle.log_fields.specs.Codes.{find}
use Rattle.driver_script.specs.Keywords.{keyword_name}
use Rattle.driver_script.proofs.keywords.find_keyword_in.Given as goal

abbrev pub invariant-loop-keyword : goal.invariant-loop-keyword
invariant-loop-keyword l = find keyword_name (drop l.keyword-index l.all) l.name ≡ find keyword_name l.all l.name
