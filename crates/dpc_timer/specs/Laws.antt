-- Laws of the clock and its timers. Each record is the contract of a function of src/clock_laws.rt that does nothing.
use Rattle.std.specs.Prelude.{◌≡◌, ◌≢◌, ◌≤◌, ℕ, ◌+◌, min, Option, None, Some}
use Rattle.nd_base.specs.declared.numbers.Addr.{Addr}
use Rattle.dpc_timer.specs.declared.timer.Timer.{Timer}
use Rattle.dpc_timer.specs.ClockState.{ClockState, timer_at, IsDue, IsFirstDue, IsNextMoment, ClockMove, Arm, Cancel, Fire, moved, last_moment}

-- the timer that a move is of, if it is of one
abbrev pub timer_in : ClockMove → Option ℕ
timer_in (Arm t moment every) = Some t.0
timer_in (Cancel t) = Some t.0
timer_in (Fire t) = Some t.0
timer_in _ = None

pub record TimeLaws : Type 0 where
  -- the clock never falls
  pub rises : (s : ClockState) (m : ClockMove) → s.clock ≤ (moved s m).clock
  -- there is one first due timer, and it is due
  pub first : (s : ClockState) (t u : Addr) → IsFirstDue s t → IsFirstDue s u → t ≡ u
  pub due : (s : ClockState) (t : Addr) → IsFirstDue s t → IsDue s t
  -- there is one next moment
  pub next : (s : ClockState) (m n : ℕ) → IsNextMoment s m → IsNextMoment s n → m ≡ n

pub record TimerLaws : Type 0 where
  -- a timer that was taken is no longer armed where it has no period, and else is armed for one period after the clock
  pub once : (s : ClockState) (t : Addr) (timer : Timer) → timer_at s t ≡ Some timer → timer.every ≡ 0 → timer_at (moved s (Fire t)) t ≡ None
  pub again : (s : ClockState) (t : Addr) (timer : Timer) → timer_at s t ≡ Some timer → timer.every ≢ 0 → timer_at (moved s (Fire t)) t ≡ Some (record timer { moment = min (s.clock + timer.every) last_moment })
  -- a timer that is armed has this moment and period, and one that is cancelled is armed no more
  pub armed : (s : ClockState) (t : Addr) (moment every : ℕ) → timer_at (moved s (Arm t moment every)) t ≡ Some (record { moment = moment; every = every })
  pub cancelled : (s : ClockState) (t : Addr) → timer_at (moved s (Cancel t)) t ≡ None
  -- every other timer stays
  pub others : (s : ClockState) (m : ClockMove) (u : Addr) → timer_in m ≢ Some u.0 → timer_at (moved s m) u ≡ timer_at s u
