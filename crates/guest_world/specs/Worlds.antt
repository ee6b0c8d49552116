-- A world before the first call, and its adapters.
use Rattle.std.specs.Prelude.{◌≡◌, ◌<◌, ℕ, ◌+◌, ◌^◌, false, ⊤, List, [], ◌∷◌, slice_index_or, slice_set, Option, None, Some}
use Rattle.std.specs.FinMap as table
use Rattle.nd_base.specs.declared.numbers.AdapterNo.{AdapterNo}
use Rattle.nd_mem.specs.Space.{Space}
use Rattle.packet_pool.specs.LiveSet as live
use Rattle.irql_lock.specs.LockState as levels
use Rattle.irql_lock.specs.LockState.{IsOpen}
use Rattle.dpc_timer.specs.ClockState as clock
use Rattle.dp8390.specs.Card.{new_card}
use Rattle.inf_file.specs.declared.param.Param.{Param}
use Rattle.guest_world.specs.declared.adapters.Adapter.{Adapter}
use Rattle.guest_world.specs.declared.adapters.Hardware.{Hardware}
use Rattle.guest_world.specs.declared.answer.Caller.{Caller}
use Rattle.guest_world.specs.declared.world.World.{World}

-- an adapter of which nothing was given
abbrev pub new_adapter : Hardware → List Param → Adapter
new_adapter hardware params = record { hardware = hardware; params = params; card = new_card hardware.station; attributes = None; interrupt = None; opened = false }

-- a world without adapters
abbrev pub new_world : List ℕ → Space → World
new_world layout memory =
    record { memory = memory; pools = live.nothing; levels = levels.nothing; clock = clock.start; layout = layout; miniport = None; timers = table.empty; adapters = None ∷ None ∷ None ∷ None ∷ [] }

-- the caller's adapter, which DriverEntry has not
abbrev pub adapter_of : World → Option AdapterNo → Option Adapter
adapter_of w None = None
adapter_of w (Some a) = slice_index_or w.adapters a.0 None

-- a change of the caller's adapter, where it is there
abbrev pub changed : World → ℕ → (Adapter → Adapter) → Option Adapter → World
changed w a change None = w
changed w a change (Some part) = record w { adapters = slice_set w.adapters a (Some (change part)) }

abbrev pub with_adapter : World → Option AdapterNo → (Adapter → Adapter) → World
with_adapter w None change = w
with_adapter w (Some a) change = changed w a.0 change (adapter_of w (Some a))

-- ---- when a call may be answered

abbrev pub HasNoFrame : Option Adapter → Type 0
HasNoFrame None = ⊤
HasNoFrame (Some adapter) = adapter.card.sent ≡ None

-- no frame that a card sent waits to be taken
abbrev pub IsIdle : World → Type 0
IsIdle w = (a : ℕ) → HasNoFrame (slice_index_or w.adapters a None)

-- the longest time from now that a call names, 86,400 seconds
abbrev pub longest_time : ℕ
longest_time = 86400000000

-- the caller's context is open, no frame waits, and each moment that a call can name is below 2^64 microseconds
pub record CanAnswer (w : World) (x : Caller) : Type 0 where
  pub opened : IsOpen w.levels x.context
  pub idle : IsIdle w
  pub moments : w.clock.clock + longest_time < 2 ^ 64
