-- The clock, its timers and the queued handlers as plain values. (Timer objects: NdisMSetTimer, NdisMSetPeriodicTimer and NdisMCancelTimer of
-- the Windows DDK. Deferred procedure calls: "Introduction to DPCs" there. The clock in microseconds and which timer comes first: the
-- project's own.)
use Rattle.std.specs.Prelude.{◌≡◌, ℕ, ◌+◌, ◌-◌, ◌^◌, ◌≤◌, ◌<◌, ◌⊎◌, min, Bool, true, false, ◌==◌, if◌then◌else◌, List, replicate, slice_index_or, slice_set, Option, None, Some, refl}
use Rattle.std.specs.Option.{option_map}
use Rattle.std.specs.Ordering.{nat_cmp}
use Rattle.std.specs.FinMap as table
use Rattle.std.specs.Coded.{Coded, code_by, coded×, coded_ℕ, coded_bool, coded_list}
use Rattle.nd_base.specs.declared.numbers.Addr.{Addr}
use Rattle.nd_base.specs.declared.numbers.AdapterNo.{AdapterNo}
use Rattle.dpc_timer.specs.declared.timer.Timer.{Timer}

-- the armed timers, by address, each with its moment and its period
abbrev pub Timers : Type 0
Timers = table.FinMap nat_cmp Timer

-- the clock's moment; the armed timers; by an adapter's number whether its handler is queued
pub record ClockState : Type 0 where
  pub clock : ℕ
  pub timers : Timers
  pub queued : List Bool

-- an adapter's number is a byte
abbrev pub adapters : ℕ
adapters = 256

unfoldable pub none_queued : List Bool
none_queued = replicate adapters false

abbrev pub start : ClockState
start = record { clock = 0; timers = table.empty; queued = none_queued }

-- ---- what is armed, due and queued

abbrev pub timer_at : ClockState → Addr → Option Timer
timer_at s t = table.get s.timers t.0

-- the moment for which a timer is armed
abbrev pub moment_of : Timers → ℕ → Option ℕ
moment_of timers t = option_map (λ timer. timer.moment) (table.get timers t)

abbrev pub armed_for : ClockState → Addr → Option ℕ
armed_for s t = moment_of s.timers t.0

abbrev pub IsArmedFor : Timers → ℕ → ℕ → Type 0
IsArmedFor timers t moment = moment_of timers t ≡ Some moment

-- the timer is armed for a moment that is not above the clock
pub record IsDue (s : ClockState) (t : Addr) : Type 0 where
  pub moment : ℕ
  pub armed : IsArmedFor s.timers t.0 moment
  pub come : moment ≤ s.clock

-- the due timer of least moment, of equal moments the one of least address
pub record IsFirstDue (s : ClockState) (t : Addr) : Type 0 where
  pub moment : ℕ
  pub armed : IsArmedFor s.timers t.0 moment
  pub come : moment ≤ s.clock
  pub least : (other moment' : ℕ) → IsArmedFor s.timers other moment' → (moment < moment') ⊎ ((moment ≡ moment') × (t.0 ≤ other))

abbrev pub NoneDue : ClockState → Type 0
NoneDue s = (t moment : ℕ) → IsArmedFor s.timers t moment → s.clock < moment

-- the earliest moment above the clock for which a timer is armed
pub record IsNextMoment (s : ClockState) (moment : ℕ) : Type 0 where
  pub later : s.clock < moment
  pub timer : ℕ
  pub armed : IsArmedFor s.timers timer moment
  pub earliest : (t moment' : ℕ) → IsArmedFor s.timers t moment' → s.clock < moment' → moment ≤ moment'

abbrev pub NoneLater : ClockState → Type 0
NoneLater s = (t moment : ℕ) → IsArmedFor s.timers t moment → moment ≤ s.clock

abbrev pub is_queued : ClockState → AdapterNo → Bool
is_queued s a = slice_index_or s.queued a.0 false

-- ---- what is done to the clock

-- Rise moves the clock on. Queue and Unqueue are of an adapter's handler. Arm sets a timer for a moment, with a period or 0; Fire takes one that
-- is due.
pub data ClockMove : Type 0 where
  Rise : ℕ → ClockMove
  Queue : AdapterNo → ClockMove
  Unqueue : AdapterNo → ClockMove
  Arm : Addr → ℕ → ℕ → ClockMove
  Cancel : Addr → ClockMove
  Fire : Addr → ClockMove

-- the last moment of a clock of 64 bits
abbrev pub last_moment : ℕ
last_moment = 2 ^ 64 - 1

-- a timer that was taken: with a period it is armed again for one period after the clock, or for the last moment where that is less
abbrev pub taken : ℕ → Timers → ℕ → Option Timer → Timers
taken now timers t None = timers
taken now timers t (Some timer) =
    if timer.every == 0 then table.remove timers t else table.insert timers t (record { moment = min (now + timer.every) last_moment; every = timer.every })

-- the state that a move leads to: no move breaks a rule
abbrev pub moved : ClockState → ClockMove → ClockState
moved s (Rise by) = record s { clock = s.clock + by }
moved s (Queue a) = record s { queued = slice_set s.queued a.0 true }
moved s (Unqueue a) = record s { queued = slice_set s.queued a.0 false }
moved s (Arm t moment every) = record s { timers = table.insert s.timers t.0 (record { moment = moment; every = every }) }
moved s (Cancel t) = record s { timers = table.remove s.timers t.0 }
moved s (Fire t) = record s { timers = taken s.clock s.timers t.0 (timer_at s t) }

-- ---- codes, by which a proof tells states apart

abbrev pub timer_code : Coded Timer
timer_code = code_by (ℕ × ℕ) (coded× coded_ℕ coded_ℕ) (λ t. (t.moment, t.every)) (λ p. record { moment = p.0; every = p.1 }) (λ _. refl)

abbrev pub timers_code : Coded Timers
timers_code = table.code coded_ℕ timer_code

abbrev pub state_code : Coded ClockState
state_code =
    code_by (ℕ × (Timers × List Bool)) (coded× coded_ℕ (coded× timers_code (coded_list coded_bool))) (λ s. (s.clock, (s.timers, s.queued)))
    (λ p. record { clock = p.0; timers = p.1.0; queued = p.1.1 })
    (λ _. refl)
