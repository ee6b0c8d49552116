-- A handler that is ready may be entered.
use Rattle.std.proofs.Common.{◌≡◌, ◌<◌, ◌+◌, ◌^◌, Option, Some, None, sym, subst}
use Rattle.nd_base.specs.declared.numbers.AdapterNo.{AdapterNo}
use Rattle.nd_base.specs.declared.numbers.CtxNo.{CtxNo}
use Rattle.irql_lock.specs.LockState.{context_of}
use Rattle.log_fields.specs.declared.field_values.Handler.{Handler}
use Rattle.log_fields.specs.declared.field_values.Handler.TheVariants as handler
use Rattle.call_log.specs.declared.entry.Entry.TheVariants as entries
use Rattle.legal_run.specs.State.{clock}
use Rattle.legal_run.specs.After.{hang_period, number_in, subject_of}
use Rattle.legal_run.specs.Run.{Meets}
use Rattle.miniport_state.specs.Seen.{Point, behind}
use Rattle.handler_entries.specs.declared.enters.Entering.{Entering}
use Rattle.handler_entries.specs.Entries.{IsInside, MayEnter, entry_of}
use Rattle.handler_words.specs.Ready.{IsReady}
use Rattle.handler_words.specs.Laws.{EnterLaws}
use Rattle.handler_words.proofs.Meets.{meets_entry, meets_owed, meets_reset}

-- an entering is that of this adapter and this handler
meets_as : (o : Point) (a : Option AdapterNo) (x : CtxNo) (h : Handler) (e : Entering) → e.adapter ≡ a → e.handler ≡ h
    → Meets o.inputs o.state (entries.Enter a x h e.words e.writes) → Meets o.inputs o.state (entry_of x e)
meets_as o a x h e same this meets =
    subst (λ b. Meets o.inputs o.state (entries.Enter b x e.handler e.words e.writes)) (sym same)
    (subst (λ k. Meets o.inputs o.state (entries.Enter a x k e.words e.writes)) (sym this) meets)

may_enter : (o : Point) (a : Option AdapterNo) (x : CtxNo) (h : Handler) (e : Entering) → IsReady o a x h e → Meets o.inputs o.state (entry_of x e) → x.0 < 16
    → IsInside o.inputs (number_in o.inputs a) h → context_of o.state.world.levels x ≡ None
    → clock o.state + hang_period o.state (number_in o.inputs a) < 2 ^ 64 → MayEnter o x e
may_enter o a x h e ready meets number inside closed time = record {
  number = number;
  meets = meets;
  few = ready.few;
  about =
      subst (λ b. e.subject.items ≡ subject_of o.state (number_in o.inputs b) e.handler e.words) (sym ready.adapter)
      (subst (λ k. e.subject.items ≡ subject_of o.state (number_in o.inputs a) k e.words) (sym ready.handler) ready.about);
  inside = subst (λ b. IsInside o.inputs (number_in o.inputs b) e.handler) (sym ready.adapter) (subst (λ k. IsInside o.inputs (number_in o.inputs a) k) (sym ready.handler) inside);
  closed = closed;
  time = subst (λ b. clock o.state + hang_period o.state (number_in o.inputs b) < 2 ^ 64) (sym ready.adapter) time;
}

pub laws : EnterLaws
laws = record {
  owed = λ o a x h e free owed reset ready. meets_as o (Some a) x h e ready.adapter ready.handler (meets_owed o.inputs o.state a x h e.words e.writes free owed reset ready.carried);
  entry = λ o x e free owed first ready. meets_as o None x handler.DriverEntry e ready.adapter ready.handler (meets_entry o.inputs o.state x e.words e.writes free owed first ready.carried);
  reset = λ o a x e owed ready. meets_as (behind o (entries.ResetBegin a)) (Some a) x handler.Reset e ready.adapter ready.handler (meets_reset o.inputs o.state a x e.words e.writes owed ready.carried);
  may = may_enter;
}
