use Rattle.nd_base.specs.KeptMap.{entries-kept}
use Rattle.irql_lock.proofs.lock_table.LockTable.holds_any.Goals as goal

pub returns : goal.returns
returns c = let e = entries-kept c.self.inside.locks.entries c.has_lock_of.ensures.ordered in rw (← c.self.view_is, e) c.has_lock_of.ensures.value
