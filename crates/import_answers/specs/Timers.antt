-- Imports 16 to 20: timers and sleep. (Windows DDK, ndis.h: NdisMInitializeTimer, NdisSetTimer, NdisMSetPeriodicTimer, NdisMCancelTimer, NdisMSleep.)
use Rattle.std.specs.Prelude.{ℕ, ◌+◌, ◌*◌, max, min, Bool, true, false, ◌&&◌, ◌==◌, List, [], ◌∷◌, Option, None, Some, is_some}
use Rattle.std.specs.FinMap as table
use Rattle.nd_mem.specs.Space.{address}
use Rattle.dpc_timer.specs.ClockState.{Arm, Cancel, moved, timer_at}
use Rattle.nd_base.specs.declared.numbers.AdapterNo.{AdapterNo}
use Rattle.guest_world.specs.declared.miniport.TimerFunction.{TimerFunction}
use Rattle.guest_world.specs.declared.world.World.{World}
use Rattle.guest_world.specs.declared.answer.Caller.{Caller}
use Rattle.import_answers.specs.World.{word, is_adapter_handle}
use Rattle.import_answers.specs.Outcomes.{Outcome, Replies, Sleeps, arguments_rule, asks, can_write, written, plain, done}
use Rattle.guest_world.specs.Worlds.{longest_time}
use Rattle.import_answers.specs.Registration.{is_function}

-- ---- NdisMInitializeTimer(timer, handle, function, context): a timer that is armed stays armed

abbrev pub with_timer : World → Option AdapterNo → List ℕ → World
with_timer w None words = w
with_timer w (Some a) words =
    record w { timers = table.insert w.timers (word words 1) (record { adapter = a; function = word words 3; context = word words 4 }) }

abbrev pub initialize_timer : World → Caller → List ℕ → Outcome
initialize_timer w x words =
    asks (is_adapter_handle x.adapter (word words 2) && is_function (word words 3)) arguments_rule (done (with_timer w x.adapter words))

-- a timer is that of the adapter which initialized it last
abbrev pub is_of : Option AdapterNo → Option TimerFunction → Bool
is_of None timer = false
is_of (Some a) None = false
is_of (Some a) (Some timer) = timer.adapter.0 == a.0

abbrev pub is_timer : World → Option AdapterNo → ℕ → Bool
is_timer w adapter a = is_of adapter (table.get w.timers a)

-- ---- NdisSetTimer(timer, milliseconds), NdisMSetPeriodicTimer(timer, milliseconds)

abbrev pub time_of : ℕ → ℕ
time_of milliseconds = min (milliseconds * 1000) longest_time

abbrev pub armed : World → ℕ → ℕ → ℕ → World
armed w timer time period = record w { clock = moved w.clock (Arm (address timer) (w.clock.clock + time) period) }

abbrev pub set_timer : World → Caller → List ℕ → Outcome
set_timer w x words = asks (is_timer w x.adapter (word words 1)) arguments_rule (done (armed w (word words 1) (time_of (word words 2)) 0))

-- a period is 1 millisecond at least
abbrev pub set_periodic_timer : World → Caller → List ℕ → Outcome
set_periodic_timer w x words =
    asks (is_timer w x.adapter (word words 1)) arguments_rule (done (armed w (word words 1) (time_of (word words 2)) (time_of (max 1 (word words 2)))))

-- ---- NdisMCancelTimer(timer, cancelled)

abbrev pub one_if : Bool → ℕ
one_if true = 1
one_if false = 0

abbrev pub cancel_timer : World → Caller → List ℕ → Outcome
cancel_timer w x words =
    asks (is_timer w x.adapter (word words 1) && can_write w (word words 2) 1) arguments_rule
    (Replies (plain 0 (written (word words 2) (one_if (is_some (timer_at w.clock (address (word words 1)))) ∷ []) ∷ [])) (record w { clock = moved w.clock (Cancel (address (word words 1))) }))

-- ---- NdisMSleep(microseconds)
abbrev pub sleep : World → List ℕ → Outcome
sleep w words = Sleeps (w.clock.clock + word words 1)
