use Rattle.std.proofs.Common.{refl}
use Rattle.nd_base.specs.KeptMap.{entries-kept}
use Rattle.irql_lock.proofs.lock_table.LockTable.let_go_all.Goals as goal

pub returns : goal.returns
returns c = let e = entries-kept c.self.inside.locks.entries c.let_go_locks.ensures.ordered in rw (← c.self.view_is, e, c.let_go_locks.ensures.value) refl
