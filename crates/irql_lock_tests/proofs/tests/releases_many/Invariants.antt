use Rattle.irql_lock.specs.LockState.{IsOpen}
use Rattle.irql_lock_tests.proofs.tests.releases_many.Given as goal

abbrev pub invariant-loop-n : goal.invariant-loop-n
invariant-loop-n l = IsOpen l.levels (record { 0 = 0 })
