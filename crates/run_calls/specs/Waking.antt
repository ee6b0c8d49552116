-- A call that has waited, and is answered now. (Windows DDK: NdisMSleep, NdisMSynchronizeWithInterrupt; the project's own: docs/LEGAL-RUN.md.)
use Rattle.std.specs.Prelude.{◌≡◌, ℕ, ◌%◌, Bool, false, [], Option, None, Some}
use Rattle.std.specs.Option.{option_and_then, option_map, option_map_or}
use Rattle.nd_base.specs.declared.numbers.CtxNo.{CtxNo}
use Rattle.call_log.specs.declared.entry.Entry.TheVariants as entries
use Rattle.import_answers.specs.Outcomes.{resumed}
use Rattle.legal_run.specs.State.{Inputs, State, Calling, Wait, OnClock, OnSync, Left, call_at}
use Rattle.run_moves.specs.declared.running.Running.{Running}
use Rattle.run_stops.specs.Standing.{SettlesBy, state_of}
use Rattle.run_calls.specs.Answering.{does_not_spin}

-- AL of the function that has left, or 0 where it has slept
abbrev pub resumption : Wait → Option ℕ
resumption (OnClock wake) = Some 0
resumption (OnSync (Left eax)) = Some (eax % 256)
resumption _ = None

-- with the call's import
abbrev pub resumption_of : Calling → Option (ℕ × ℕ)
resumption_of call = option_map (λ al. (call.import, al)) (resumption call.wait)

-- the context's open call does not wait for a lock
abbrev pub does_not_spin_at : State → CtxNo → Bool
does_not_spin_at s x = option_map_or (λ call. does_not_spin call.wait) (call_at s x.0) false

-- the first new entry is the reply of the context's call: what a call of that import is resumed with
pub record Wakes (c : Inputs) (x : CtxNo) (before r : Running) : Type 0 where
  pub import : ℕ
  pub al : ℕ
  pub waited : option_and_then resumption_of (call_at (state_of c before) x.0) ≡ Some (import, al)
  pub settles : SettlesBy c (entries.Reply x (resumed import al).eax []) before r
