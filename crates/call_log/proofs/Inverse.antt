-- An entry is told by its kind and fields.
use Rattle.std.proofs.Common.{◌≡◌, Bool, List, map, Option, refl, sym, ap, ◌∙◌}
use Rattle.nd_base.specs.declared.numbers.AdapterNo.{AdapterNo}
use Rattle.nd_base.specs.declared.numbers.BindingNo.{BindingNo}
use Rattle.log_fields.specs.declared.field_values.Question.{Question}
use Rattle.log_fields.specs.declared.field_values.Cause.{Cause}
use Rattle.log_fields.specs.declared.field_values.Condition.{Condition}
use Rattle.log_fields.specs.declared.write.Write.{Write}
use Rattle.log_fields.specs.Fields.{flag_of, write_of}
use Rattle.log_fields.specs.ValueLaws.{holders_back, holders_are, writes_back, writes_are, adapter_back, adapter_is, flag_back, flag_is, question_back, question_is, cause_back, cause_is, what_back, what_is}
use Rattle.call_log.specs.declared.entry.Entry.{Entry}
use Rattle.call_log.specs.declared.entry.Entry.TheVariants as entries
use Rattle.call_log.specs.declared.kinds.Kind.{Kind}
use Rattle.call_log.specs.declared.kinds.Kind.TheVariants as kinds
use Rattle.call_log.specs.Lines.{Line, Fields, line_of}

abbrev entry_at : (k : Kind) → Fields k → Entry
entry_at kinds.Bind x = entries.Bind (record { 0 = x.0 }) (record { 0 = x.1 })
entry_at kinds.Unbind x = entries.Unbind (record { 0 = x })
entry_at kinds.Quiet x = entries.Quiet (record { 0 = x })
entry_at kinds.Done x = entries.Done (record { 0 = x })
entry_at kinds.Send x = entries.Send (record { 0 = x.0 }) (record { 0 = x.1.0 }) x.1.1
entry_at kinds.Hand x = entries.Hand (record { 0 = x })
entry_at kinds.Requeue x = entries.Requeue (record { 0 = x })
entry_at kinds.Late x = entries.Late (record { 0 = x })
entry_at kinds.Complete x = entries.Complete (record { 0 = x.0 }) (record { 0 = x.1 })
entry_at kinds.Indicate x = entries.Indicate (record { 0 = x.0 }) (record { 0 = x.1.0 }) x.1.1.0 (holders_back x.1.1.1.0) (flag_back x.1.1.1.1)
entry_at kinds.Return x = entries.Return (record { 0 = x.0 }) (record { 0 = x.1 })
entry_at kinds.Back x = entries.Back (record { 0 = x.0 }) (flag_back x.1)
entry_at kinds.Ask x = entries.Ask (record { 0 = x.0 }) (record { 0 = x.1.0 }) (question_back x.1.1.0 x.1.1.1)
entry_at kinds.HandAsk x = entries.HandAsk (record { 0 = x })
entry_at kinds.Answer x = entries.Answer (record { 0 = x.0 }) (record { 0 = x.1.0 }) x.1.1
entry_at kinds.Enter x = entries.Enter (adapter_back x.0) (record { 0 = x.1.0 }) x.1.1.0 x.1.1.1.0 (writes_back x.1.1.1.1)
entry_at kinds.Leave x = entries.Leave (record { 0 = x.0 }) x.1
entry_at kinds.Turn x = entries.Turn (record { 0 = x.0 }) x.1
entry_at kinds.Call x = entries.Call (record { 0 = x.0 }) x.1.0 x.1.1
entry_at kinds.Reply x = entries.Reply (record { 0 = x.0 }) x.1.0 (writes_back x.1.1)
entry_at kinds.Spin x = entries.Spin (record { 0 = x.0 }) (record { 0 = x.1 })
entry_at kinds.Port x = entries.Port (record { 0 = x.0 }) x.1.0 x.1.1.0 x.1.1.1.0 x.1.1.1.1
entry_at kinds.WireIn x = entries.WireIn x
entry_at kinds.WireOut x = entries.WireOut (record { 0 = x.0 }) x.1
entry_at kinds.Time x = entries.Time x
entry_at kinds.ResetBegin x = entries.ResetBegin (record { 0 = x })
entry_at kinds.ResetEnd x = entries.ResetEnd (record { 0 = x.0 }) (record { 0 = x.1 })
entry_at kinds.Fault x = entries.Fault (record { 0 = x.0 }) x.1.0 (record { 0 = x.1.1 })
entry_at kinds.Stop x = entries.Stop (record { 0 = x.0 }) (cause_back x.1.0 x.1.1)
entry_at kinds.Await x = entries.Await (record { 0 = x.0 }) (what_back x.1.0 x.1.1)
entry_at kinds.Tag x = entries.Tag (record { 0 = x.0 }) x.1
entry_at kinds.Cancel x = entries.Cancel (record { 0 = x.0 }) x.1
entry_at kinds.Event x = entries.Event (record { 0 = x.0 }) x.1.0 x.1.1.0 (flag_back x.1.1.1)

entry_is : (e : Entry) → entry_at (line_of e).0 (line_of e).1 ≡ e
unfolding line_of
entry_is (entries.Bind driver adapter) = refl
entry_is (entries.Unbind driver) = refl
entry_is (entries.Quiet driver) = refl
entry_is (entries.Done driver) = refl
entry_is (entries.Send driver packet bytes) = refl
entry_is (entries.Hand packet) = refl
entry_is (entries.Requeue packet) = refl
entry_is (entries.Late packet) = refl
entry_is (entries.Complete packet status) = refl
entry_is (entries.Indicate adapter loan bytes holders copied) = ap (λ (z : List BindingNo). entries.Indicate adapter loan bytes z (flag_back (flag_of copied))) (holders_are holders) ∙ ap (λ (z : Bool). entries.Indicate adapter loan bytes holders z) (flag_is copied)
entry_is (entries.Return driver loan) = refl
entry_is (entries.Back loan failed) = ap (λ (z : Bool). entries.Back loan z) (flag_is failed)
entry_is (entries.Ask driver request question) = ap (λ (z : Question). entries.Ask driver request z) (question_is question)
entry_is (entries.HandAsk request) = refl
entry_is (entries.Answer request status bytes) = refl
entry_is (entries.Enter adapter context handler words writes) = ap (λ (z : Option AdapterNo). entries.Enter z context handler words (writes_back (map write_of writes))) (adapter_is adapter) ∙ ap (λ (z : List Write). entries.Enter adapter context handler words z) (writes_are writes)
entry_is (entries.Leave context eax) = refl
entry_is (entries.Turn context count) = refl
entry_is (entries.Call context import words) = refl
entry_is (entries.Reply context eax writes) = ap (λ (z : List Write). entries.Reply context eax z) (writes_are writes)
entry_is (entries.Spin context lock) = refl
entry_is (entries.Port adapter direction width port bytes) = refl
entry_is (entries.WireIn frame) = refl
entry_is (entries.WireOut adapter bytes) = refl
entry_is (entries.Time clock) = refl
entry_is (entries.ResetBegin adapter) = refl
entry_is (entries.ResetEnd adapter status) = refl
entry_is (entries.Fault context kind address) = refl
entry_is (entries.Stop adapter cause) = ap (λ (z : Cause). entries.Stop adapter z) (cause_is cause)
entry_is (entries.Await driver what) = ap (λ (z : Condition). entries.Await driver z) (what_is what)
entry_is (entries.Tag packet id) = refl
entry_is (entries.Cancel driver id) = refl
entry_is (entries.Event driver number bytes taken) = ap (λ (z : Bool). entries.Event driver number bytes z) (flag_is taken)

pub one_view : (e f : Entry) → line_of e ≡ line_of f → e ≡ f
one_view e f h = sym (entry_is e) ∙ ap (λ (x : Line). entry_at x.0 x.1) h ∙ entry_is f
