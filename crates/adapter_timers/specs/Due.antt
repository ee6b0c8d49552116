-- Which turns are an adapter's, which have come, and which are those of adapters that live.
use Rattle.std.specs.Prelude.{◌≡◌, ℕ, Bool, false, ◌&&◌, ◌==◌, nat_lt, nat_le, if◌then◌else◌, List, length, slice_index_or, Option, Some, None}
use Rattle.std.specs.Option.{option_map_or}
use Rattle.std.specs.FinMap as table
use Rattle.dpc_timer.specs.declared.timer.Turn.{Turn}
use Rattle.guest_world.specs.Timers.{Timers}
use Rattle.legal_run.specs.State.{Inputs, State, alive}

-- a timer whose function is the adapter's
abbrev pub is_his : Timers → ℕ → ℕ → Bool
is_his timers a t = option_map_or (λ f. f.adapter.0 == a) (table.get timers t) false

-- a turn, unless it is above the clock
abbrev pub up_to : ℕ → Option Turn → Option Turn
up_to now None = None
up_to now (Some x) = if nat_le x.moment now then Some x else None

-- by number, whether an adapter is there, and neither off nor stopped
abbrev pub AreLiving : Inputs → State → List Bool → Type 0
AreLiving c s living = (a : ℕ) → slice_index_or living a false ≡ (nat_lt a (length c.adapters) && alive s a)

-- a timer whose function is that of an adapter that lives
abbrev pub is_living : Timers → List Bool → ℕ → Bool
is_living timers living t = option_map_or (λ f. slice_index_or living f.adapter.0 false) (table.get timers t) false
