-- An entry whose types hold it, with its numbers in their ranges, fits.
use Rattle.std.proofs.Common.{◌≡◌, ℕ, ◌<◌, ◌^◌, true, false, List, [], ◌∷◌, map, Option, None, Some, refl}
use Rattle.std.specs.List.{AllByRecursion}
use Rattle.std.specs.Option.{option_map}
use Rattle.nd_base.specs.declared.numbers.AdapterNo.{AdapterNo}
use Rattle.nd_base.specs.declared.numbers.BindingNo.{BindingNo}
use Rattle.log_fields.specs.Codes.{optional, listed}
use Rattle.log_fields.specs.Fields.{small, write, write_of, question, question_of, what, what_of}
use Rattle.log_fields.specs.NameLaws.{handler_found, fault_found, condition_found, import_found}
use Rattle.log_fields.specs.RangeLaws.{small_fits, medium_fits, large_fits, flag_fits, width_fits, direction_fits, cause_fits}
use Rattle.log_fields.specs.declared.field_values.Question.{Question}
use Rattle.log_fields.specs.declared.field_values.Question.TheVariants as questions
use Rattle.log_fields.specs.declared.field_values.Condition.{Condition}
use Rattle.log_fields.specs.declared.field_values.Condition.TheVariants as conditions
use Rattle.log_fields.specs.declared.names.ConditionKind.TheVariants as condition_kinds
use Rattle.log_fields.specs.declared.write.Write.{Write}
use Rattle.call_log.specs.Held.{AreHolders, AreWrites, IsAdapter, IsQuestion, IsCondition, IsHeld}
use Rattle.call_log.specs.Lines.{line, line_of, InRange}
use Rattle.call_log.specs.Logs.{Fits, HeldEntriesFit}
use Rattle.call_log.specs.declared.entry.Entry.{Entry}
use Rattle.call_log.specs.declared.entry.Entry.TheVariants as entries
use Rattle.call_log.specs.declared.kinds.Kind.TheVariants as kinds
use Rattle.call_log.proofs.Found.{kind_found}

holders_fit : (hs : List BindingNo) → AreHolders hs → (listed small).fits (map (λ h. h.0) hs)
holders_fit [] p = tt
holders_fit (h ∷ hs) p = (small_fits h.0 p.0, holders_fit hs p.1)

writes_fit : (ws : List Write) → AreWrites ws → (listed write).fits (map write_of ws)
writes_fit [] p = tt
writes_fit (w ∷ ws) p = (p.0, writes_fit ws p.1)

adapter_fits : (a : Option AdapterNo) → IsAdapter a → (optional small).fits (option_map (λ a. a.0) a)
adapter_fits None p = tt
adapter_fits (Some a) p = small_fits a.0 p

question_fits : (q : Question) → IsQuestion q → question.fits (question_of q)
question_fits (questions.Query oid length) p = (refl, (p.0, medium_fits length p.1))
question_fits (questions.Set oid bytes) p = (refl, (p.0, p.1))

what_fits : (w : Condition) → IsCondition w → what.fits (what_of w)
what_fits conditions.Up p = (condition_found condition_kinds.Up, tt)
what_fits conditions.Sent p = (condition_found condition_kinds.Sent, tt)
what_fits conditions.Replies p = (condition_found condition_kinds.Replies, tt)
what_fits (conditions.Frames n) p = (condition_found condition_kinds.Frames, large_fits n p)
what_fits conditions.Room p = (condition_found condition_kinds.Room, tt)
what_fits conditions.All p = (condition_found condition_kinds.All, tt)

pub held_fits : HeldEntriesFit
unfolding line line_of
held_fits (entries.Bind driver adapter) p r = (kind_found kinds.Bind, (small_fits driver.0 p.0, small_fits adapter.0 p.1))
held_fits (entries.Unbind driver) p r = (kind_found kinds.Unbind, small_fits driver.0 p)
held_fits (entries.Quiet driver) p r = (kind_found kinds.Quiet, small_fits driver.0 p)
held_fits (entries.Done driver) p r = (kind_found kinds.Done, small_fits driver.0 p)
held_fits (entries.Send driver packet bytes) p r = (kind_found kinds.Send, (small_fits driver.0 p.0, (large_fits packet.0 p.1, p.2)))
held_fits (entries.Hand packet) p r = (kind_found kinds.Hand, large_fits packet.0 p)
held_fits (entries.Requeue packet) p r = (kind_found kinds.Requeue, large_fits packet.0 p)
held_fits (entries.Late packet) p r = (kind_found kinds.Late, large_fits packet.0 p)
held_fits (entries.Complete packet status) p r = (kind_found kinds.Complete, (large_fits packet.0 p.0, p.1))
held_fits (entries.Indicate adapter loan bytes holders copied) p r = (kind_found kinds.Indicate, (small_fits adapter.0 p.0, (large_fits loan.0 p.1, (p.2, (holders_fit holders p.3, flag_fits copied)))))
held_fits (entries.Return driver loan) p r = (kind_found kinds.Return, (small_fits driver.0 p.0, large_fits loan.0 p.1))
held_fits (entries.Back loan failed) p r = (kind_found kinds.Back, (large_fits loan.0 p, flag_fits failed))
held_fits (entries.Ask driver request asks) p r = (kind_found kinds.Ask, (small_fits driver.0 p.0, (large_fits request.0 p.1, question_fits asks p.2)))
held_fits (entries.HandAsk request) p r = (kind_found kinds.HandAsk, large_fits request.0 p)
held_fits (entries.Answer request status bytes) p r = (kind_found kinds.Answer, (large_fits request.0 p.0, (p.1, p.2)))
held_fits (entries.Enter adapter context entered words writes) p r = (kind_found kinds.Enter, (adapter_fits adapter p.0, (small_fits context.0 p.1, (handler_found entered, (p.2, writes_fit writes p.3)))))
held_fits (entries.Leave context eax) p r = (kind_found kinds.Leave, (small_fits context.0 p.0, p.1))
held_fits (entries.Turn context count) p r = (kind_found kinds.Turn, (small_fits context.0 p.0, large_fits count p.1))
held_fits (entries.Call context n words) p r = (kind_found kinds.Call, (small_fits context.0 p.0, (import_found n r.0 r.1, p.1)))
held_fits (entries.Reply context eax writes) p r = (kind_found kinds.Reply, (small_fits context.0 p.0, (p.1, writes_fit writes p.2)))
held_fits (entries.Spin context lock) p r = (kind_found kinds.Spin, (small_fits context.0 p.0, p.1))
held_fits (entries.Port adapter way size port bytes) p r = (kind_found kinds.Port, (small_fits adapter.0 p.0, (direction_fits way, (width_fits size r.0 r.1, (p.1, p.2)))))
held_fits (entries.WireIn frame) p r = (kind_found kinds.WireIn, large_fits frame p)
held_fits (entries.WireOut adapter bytes) p r = (kind_found kinds.WireOut, (small_fits adapter.0 p.0, p.1))
held_fits (entries.Time clock) p r = (kind_found kinds.Time, large_fits clock p)
held_fits (entries.ResetBegin adapter) p r = (kind_found kinds.ResetBegin, small_fits adapter.0 p)
held_fits (entries.ResetEnd adapter status) p r = (kind_found kinds.ResetEnd, (small_fits adapter.0 p.0, p.1))
held_fits (entries.Fault context kind address) p r = (kind_found kinds.Fault, (small_fits context.0 p.0, (fault_found kind, p.1)))
held_fits (entries.Stop adapter why) p r = (kind_found kinds.Stop, (small_fits adapter.0 p, cause_fits why r))
held_fits (entries.Await driver until) p r = (kind_found kinds.Await, (small_fits driver.0 p.0, what_fits until p.1))
held_fits (entries.Tag packet id) p r = (kind_found kinds.Tag, (large_fits packet.0 p.0, medium_fits id p.1))
held_fits (entries.Cancel driver id) p r = (kind_found kinds.Cancel, (small_fits driver.0 p.0, medium_fits id p.1))
held_fits (entries.Event driver number bytes taken) p r = (kind_found kinds.Event, (small_fits driver.0 p.0, (medium_fits number p.1, (p.2, flag_fits taken))))
