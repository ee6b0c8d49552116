use Rattle.nd_base.specs.KeptMap.{get-kept}
use Rattle.irql_lock.proofs.lock_table.LockTable.get.Goals as goal

pub returns : goal.returns
returns c = let e = get-kept c.self.inside.locks c.args.lock.0 in cc
