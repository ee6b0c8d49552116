-- Sleepers, and which context ran longest ago.
use Rattle.std.specs.Prelude.{ℕ, Bool, true, min, nat_lt, Option, None, Some, slice_index_or, if◌then◌else◌}
use Rattle.std.specs.Option.{option_map}
use Rattle.nd_base.specs.declared.numbers.CtxNo.{CtxNo}
use Rattle.legal_run.specs.State.{State, Calling, Wait, is_open, call_at, has_handler}
use Rattle.legal_run.specs.Owed.{check_of, wake_in}
use Rattle.log_fields.specs.declared.field_values.Handler.TheVariants.{CheckForHang}
use Rattle.miniport_state.specs.declared.adapters.Adapters.{Adapters}

-- the moment at which a context wakes that sleeps
abbrev pub wake_at : State → ℕ → Option ℕ
wake_at s x = if is_open s x then wake_in (call_at s x) else None

-- the moment of the next hang check of an adapter that runs, where the miniport has one
abbrev pub check_in : State → ℕ → Option ℕ
check_in s a = if has_handler s CheckForHang then check_of s a else None

-- an open call that waits for something else
abbrev pub waiting_for : Wait → Option Calling → Option Calling
waiting_for wait call = option_map {T = Calling} (λ call. record call { wait = wait }) call

-- when a context ran last, as a count of what ran before it
abbrev pub when_ran : Adapters → ℕ → ℕ
when_ran m x = slice_index_or m.ran x 0

abbrev pub is_earlier : Adapters → CtxNo → Option CtxNo → Bool
is_earlier m x None = true
is_earlier m x (Some y) = nat_lt (when_ran m x.0) (when_ran m y.0)

abbrev pub earlier : Option ℕ → Option ℕ → Option ℕ
earlier (Some one) (Some other) = Some (min one other)
earlier (Some one) None = Some one
earlier None other = other
