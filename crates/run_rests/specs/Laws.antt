-- What comes next may stand where nothing must.
use Rattle.std.specs.Prelude.{◌≡◌, ℕ, true, false, Option}
use Rattle.nd_base.specs.declared.numbers.AdapterNo.{AdapterNo}
use Rattle.nd_base.specs.declared.numbers.BindingNo.{BindingNo}
use Rattle.nd_base.specs.declared.numbers.CtxNo.{CtxNo}
use Rattle.log_fields.specs.declared.field_values.Cause.TheVariants as cause
use Rattle.log_fields.specs.declared.field_values.Handler.TheVariants as handler
use Rattle.call_log.specs.declared.entry.Entry.TheVariants as entries
use Rattle.miniport_state.specs.declared.adapters.Adapters.{Adapters}
use Rattle.owed_handlers.specs.declared.choice.Owed.{Owed}
use Rattle.owed_handlers.specs.declared.choice.Owed.TheVariants as owed
use Rattle.owed_handlers.specs.Laws.{IsOwed}
use Rattle.legal_run.specs.State.{Inputs, State, is_free}
use Rattle.legal_run.specs.Owed.{frame_due}
use Rattle.legal_run.specs.Run.{freely}
use Rattle.run_rests.specs.declared.choice.Due.TheVariants as due
use Rattle.run_rests.specs.Order.{IsDue}

-- the handler is owed, the context is free, and no frame is due
pub record CanEnter (c : Inputs) (s : State) (x : CtxNo) (which : Owed) : Type 0 where
  pub owed : IsOwed c s which
  pub free : is_free s x.0 ≡ true
  pub no_frame : frame_due c s ≡ false

pub record DueLaws : Type 0 where
  pub frame : (c : Inputs) (s : State) (m : Adapters) (who : Option BindingNo) → IsDue c s m who due.Frame → freely c s (entries.WireIn s.come) ≡ true
  pub enter : (c : Inputs) (s : State) (m : Adapters) (who : Option BindingNo) (x : CtxNo) (which : Owed) → IsDue c s m who (due.Enter x which) → CanEnter c s x which
  -- a reset begins before its handler is entered
  pub reset : (c : Inputs) (s : State) (m : Adapters) (who : Option BindingNo) (x : CtxNo) (a : AdapterNo) → IsDue c s m who (due.Enter x (owed.Handler a handler.Reset)) → freely c s (entries.ResetBegin a) ≡ true
  pub jump : (c : Inputs) (s : State) (m : Adapters) (who : Option BindingNo) (moment : ℕ) → IsDue c s m who (due.Jump moment) → freely c s (entries.Time moment) ≡ true
  -- by rule 13
  pub stop : (c : Inputs) (s : State) (m : Adapters) (who : Option BindingNo) (a : AdapterNo) → IsDue c s m who (due.Stop a) → freely c s (entries.Stop a (cause.Breach (record { 0 = 13 }))) ≡ true
  pub quiet : (c : Inputs) (s : State) (m : Adapters) (who : Option BindingNo) (b : BindingNo) → IsDue c s m who (due.Quiet b) → freely c s (entries.Quiet b) ≡ true
