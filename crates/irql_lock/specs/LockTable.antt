-- The locks that a map keeps, as a finite map.
use Rattle.std.specs.Prelude.{ℕ, Option}
use Rattle.std.specs.BTreeMap.{BTreeMap}
use Rattle.std.specs.FinMap as table
use Rattle.irql_lock.specs.declared.states.Holding.{Holding}
use Rattle.irql_lock.specs.LockState.{Locks}

abbrev pub locks_in : BTreeMap ℕ (Option Holding) → Locks
locks_in kept = table.from_entries kept.entries
