-- What comes next where nothing must: the first of these that there is. (Which of several comes first: the project's own, docs/LEGAL-RUN.md.)
use Rattle.std.specs.Prelude.{◌≡◌, ◌≤◌, ◌<◌, ℕ, true, false, Option, Some, None}
use Rattle.nd_base.specs.declared.numbers.BindingNo.{BindingNo}
use Rattle.nd_base.specs.declared.numbers.CtxNo.{CtxNo}
use Rattle.miniport.specs.Waiting.{when_ran}
use Rattle.miniport_state.specs.declared.adapters.Adapters.{Adapters}
use Rattle.owed_handlers.specs.declared.choice.Owed.{Owed}
use Rattle.legal_run.specs.State.{Inputs, State}
use Rattle.legal_run.specs.Owed.{can_run, frame_due, may_be_quiet, may_be_silent, may_jump, rests}
use Rattle.run_rests.specs.Entering.{next_enter}
use Rattle.run_rests.specs.declared.choice.Due.{Due}
use Rattle.run_rests.specs.declared.choice.Due.TheVariants as due

-- no frame is due; it is the owed handler that comes first, and the lowest free context
pub record Enters (c : Inputs) (s : State) (x : CtxNo) (owed : Owed) : Type 0 where
  pub no_frame : frame_due c s ≡ false
  pub first : next_enter c s ≡ Some (x.0, owed)

-- nor can a handler be entered; the context can run, and of those that can it ran longest ago
pub record GoesOn (c : Inputs) (s : State) (m : Adapters) (x : CtxNo) : Type 0 where
  pub no_frame : frame_due c s ≡ false
  pub no_enter : next_enter c s ≡ None
  pub can : can_run s x.0 ≡ true
  pub longest_ago : (y : ℕ) → y < 16 → can_run s y ≡ true → when_ran m x.0 ≤ when_ran m y

-- the run rests, the clock can't go on, no adapter is stopped, and the driver who asks does not wait in vain
pub record IsStill (c : Inputs) (s : State) (who : Option BindingNo) : Type 0 where
  pub resting : rests c s ≡ true
  pub no_jump : (m : ℕ) → may_jump c s m ≡ false
  pub no_stop : (a : ℕ) → may_be_silent c s a ≡ false
  pub not_quiet : (b : BindingNo) → who ≡ Some b → may_be_quiet c s b.0 ≡ false

abbrev pub IsDue : Inputs → State → Adapters → Option BindingNo → Due → Type 0
IsDue c s m who due.Frame = frame_due c s ≡ true
IsDue c s m who (due.Enter x owed) = Enters c s x owed
IsDue c s m who (due.GoOn x) = GoesOn c s m x
IsDue c s m who (due.Jump moment) = may_jump c s moment ≡ true
IsDue c s m who (due.Stop a) = may_be_silent c s a.0 ≡ true
IsDue c s m who (due.Quiet b) = (who ≡ Some b) × (may_be_quiet c s b.0 ≡ true)
IsDue c s m who due.Nothing = IsStill c s who
