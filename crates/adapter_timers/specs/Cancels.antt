-- The clock without the timers of an adapter.
use Rattle.std.specs.Prelude.{ℕ, ◌==◌, if◌then◌else◌, List, [], ◌∷◌}
use Rattle.std.specs.FinMap as table
use Rattle.nd_mem.specs.Space.{address}
use Rattle.dpc_timer.specs.ClockState.{ClockState, Cancel, moved}
use Rattle.guest_world.specs.declared.miniport.TimerFunction.{TimerFunction}
use Rattle.guest_world.specs.Timers.{Timers}

-- each timer whose function is the adapter's is cancelled
unfoldable pub cancels : ℕ → List (ℕ × TimerFunction) → ClockState → ClockState
cancels a [] k = k
cancels a (t ∷ ts) k = cancels a ts (if t.1.adapter.0 == a then moved k (Cancel (address t.0)) else k)

abbrev pub without : Timers → ℕ → ClockState → ClockState
without timers a k = cancels a (table.entries timers) k
