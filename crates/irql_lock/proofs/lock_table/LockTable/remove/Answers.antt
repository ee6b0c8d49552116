use Rattle.nd_base.specs.KeptMap.{kept-remove}
use Rattle.irql_lock.proofs.lock_table.LockTable.remove.Goals as goal

pub returns : goal.returns
returns c = rw (← c.self.view_is) (kept-remove c.self.inside.locks c.remove.new.self c.args.lock.0 c.remove.ensures.updates)
