use Rattle.std.proofs.Common.{None}
use Rattle.nd_base.specs.KeptMap.{kept-insert}
use Rattle.irql_lock.proofs.lock_table.LockTable.add.Goals as goal
use Rattle.irql_lock.proofs.lock_table.LockTable.add.Goals.{in-Ok, in-Err}

pub returns-clause-ok : goal.returns-clause-ok
returns-clause-ok c =
    elim c.match-insert.branch [
      | in-Ok w ↦ let e = kept-insert c.self.inside.locks c.insert.new.self c.args.lock.0 None (rw w.in-Ok.is at c.insert.ensures.updates) in rw (w.result-is, ← c.self.view_is) e
      | in-Err w ↦ rw w.result-is tt
    ]
