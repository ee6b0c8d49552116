-- A handler that is ready may be entered.
use Rattle.std.specs.Prelude.{◌≡◌, ◌<◌, ◌+◌, ◌^◌, true, false, Option, Some, None}
use Rattle.nd_base.specs.declared.numbers.AdapterNo.{AdapterNo}
use Rattle.nd_base.specs.declared.numbers.CtxNo.{CtxNo}
use Rattle.irql_lock.specs.LockState.{context_of}
use Rattle.log_fields.specs.declared.field_values.Handler.{Handler}
use Rattle.log_fields.specs.declared.field_values.Handler.TheVariants as handler
use Rattle.call_log.specs.declared.entry.Entry.TheVariants as entries
use Rattle.legal_run.specs.State.{clock}
use Rattle.legal_run.specs.Owed.{is_owed, owes_entry}
use Rattle.legal_run.specs.Enters.{is_reset}
use Rattle.legal_run.specs.After.{hang_period, number_in}
use Rattle.legal_run.specs.Must.{must}
use Rattle.legal_run.specs.Run.{Meets}
use Rattle.miniport_state.specs.Seen.{Point, behind}
use Rattle.handler_entries.specs.declared.enters.Entering.{Entering}
use Rattle.handler_entries.specs.Entries.{IsInside, MayEnter, entry_of}
use Rattle.handler_words.specs.Ready.{IsReady}

pub record EnterLaws : Type 0 where
  -- one that is owed, where nothing must stand; that of a reset stands directly behind its begin alone
  pub owed : (o : Point) (a : AdapterNo) (x : CtxNo) (h : Handler) (e : Entering) → must o.state ≡ None → is_owed o.inputs o.state a.0 h ≡ true
      → is_reset h ≡ false → IsReady o (Some a) x h e → Meets o.inputs o.state (entry_of x e)
  pub entry : (o : Point) (x : CtxNo) (e : Entering) → must o.state ≡ None → owes_entry o.inputs o.state ≡ true → x.0 ≡ 0
      → IsReady o None x handler.DriverEntry e → Meets o.inputs o.state (entry_of x e)
  pub reset : (o : Point) (a : AdapterNo) (x : CtxNo) (e : Entering) → is_owed o.inputs o.state a.0 handler.Reset ≡ true
      → IsReady (behind o (entries.ResetBegin a)) (Some a) x handler.Reset e → Meets o.inputs (behind o (entries.ResetBegin a)).state (entry_of x e)
  -- its `enter` may stand: then it may be entered, in a context that has no level, while the moment of a next hang check can be told
  pub may : (o : Point) (a : Option AdapterNo) (x : CtxNo) (h : Handler) (e : Entering) → IsReady o a x h e → Meets o.inputs o.state (entry_of x e) → x.0 < 16
      → IsInside o.inputs (number_in o.inputs a) h → context_of o.state.world.levels x ≡ None
      → clock o.state + hang_period o.state (number_in o.inputs a) < 2 ^ 64 → MayEnter o x e
