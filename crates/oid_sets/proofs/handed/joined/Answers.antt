use Rattle.std.proofs.Common.{rules}
use Rattle.oid_sets.proofs.Joined.{all_once}
use Rattle.oid_sets.proofs.handed.joined.Goals as goal

pub returns : goal.returns
returns g c = search (rules, all_once)
