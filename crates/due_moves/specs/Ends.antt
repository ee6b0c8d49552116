-- What it comes to where an entry that must stand is written.
use Rattle.std.specs.Prelude.{◌≡◌, Result, Ok, Err}
use Rattle.nd_base.specs.declared.OutOfMemory.{OutOfMemory}
use Rattle.call_log.specs.declared.entry.Entry.{Entry}
use Rattle.miniport_state.specs.Seen.{Point}
use Rattle.run_moves.specs.declared.running.Running.{Running}
use Rattle.run_moves.specs.Runs.{Grows, IsRun}

-- the entry was written; or memory was wanted, and nothing has changed
abbrev pub GrowsOr : Point → Entry → Running → Running → Result (Unit {0}) OutOfMemory → Type 0
GrowsOr o e before r (Ok _) = Grows o e before r
GrowsOr o e before r (Err _) = IsRun o r × (r.log ≡ before.log)
