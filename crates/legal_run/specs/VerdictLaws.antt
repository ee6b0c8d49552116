-- What a handler was entered for, and what stands behind its leave: its verdicts, by its answer in EAX or by the status words of its packets. The record is the contract of a
-- function of src/kinds.rt that does nothing. (Windows DDK: MiniportSend, MiniportSendPackets, MiniportQueryInformation, MiniportSetInformation,
-- MiniportReset.)
use Rattle.std.specs.Prelude.{◌≡◌, ◌≢◌, ◌⊎◌, ◌≤◌, ◌<◌, ℕ, Bool, true, false, ◌&&◌, ◌==◌, List, [], ◌∷◌, length, map, filter, slice_get, Some}
use Rattle.nd_base.specs.declared.numbers.AdapterNo.{AdapterNo}
use Rattle.nd_base.specs.declared.numbers.CtxNo.{CtxNo}
use Rattle.nd_mem.specs.Space.{bytes_from}
use Rattle.guest_map.specs.Regions.{request_bytes}
use Rattle.log_fields.specs.declared.write.Write.{Write}
use Rattle.log_fields.specs.declared.field_values.Handler.{Handler}
use Rattle.log_fields.specs.declared.field_values.Handler.TheVariants as handler
use Rattle.log_fields.specs.declared.field_values.Question.TheVariants.{Query}
use Rattle.call_log.specs.declared.entry.Entry.{Entry}
use Rattle.call_log.specs.declared.entry.Entry.TheVariants as entries
use Rattle.import_answers.specs.Statuses.{success, pending, resources}
use Rattle.owner_machine.specs.declared.rows.Request.{Request}
use Rattle.owner_machine.specs.State.{is_resetting, phase_is}
use Rattle.owner_machine.specs.Contexts.{serialized}
use Rattle.owner_machine.specs.Packets.{at_miniport}
use Rattle.owner_machine.specs.Requests.{first_asked, is_set}
use Rattle.legal_run.specs.State.{Inputs, State, Verdicts, adapter_of, handler_of, context_at, cells}
use Rattle.legal_run.specs.Owed.{first}
use Rattle.legal_run.specs.Calls.{Breaking, Draws, leaves, leaves_even, requeue, complete, slot_status, handed_request, written_count}
use Rattle.legal_run.specs.Enters.{handed_to}
use Rattle.legal_run.specs.After.{after}
use Rattle.legal_run.specs.Must.{Exactly, must}
use Rattle.legal_run.specs.EntryLaws.{is_ask}

-- ---- a handler that leaves

-- the context runs that handler of the adapter, which leaves at the level that it began at, and holds no lock
pub record IsLeaving (s : State) (x : CtxNo) (a : AdapterNo) (h : Handler) : Type 0 where
  pub adapter : adapter_of s x.0 ≡ Some a
  pub handler : handler_of s x.0 ≡ h
  pub even : leaves_even s x ≡ true

-- packets are handed to it
abbrev pub is_send : Handler → Bool
is_send handler.Send = true
is_send handler.SendPackets = true
is_send _ = false

-- it may answer PENDING, and what it was entered for ends by a call
abbrev pub may_wait : Handler → Bool
may_wait handler.Send = true
may_wait handler.Query = true
may_wait handler.Set = true
may_wait handler.Reset = true
may_wait _ = false

abbrev pub subject : State → CtxNo → List ℕ
subject s x = (context_at s x.0).subject

-- The verdicts of a serialized miniport on an array of packets, by the status of each: none on one that is PENDING; one that is given back for want of
-- RESOURCES goes back into the queue, and so do the later ones that the miniport holds still; any other is completed.
abbrev pub AreVerdicts : State → List ℕ → List Entry → Type 0
AreVerdicts s [] es = es ≡ []
AreVerdicts s (k ∷ ks) es =
    ((slot_status s k ≡ pending) × AreVerdicts s ks es)
    ⊎ ((at_miniport s.owner k ≡ true) × (slot_status s k ≡ resources) × (es ≡ map requeue (k ∷ filter (at_miniport s.owner) ks)))
    ⊎ ((at_miniport s.owner k ≡ true) × (rest : List Entry) × (es ≡ complete k (slot_status s k) ∷ rest) × AreVerdicts s ks rest)

-- ---- the laws

pub record VerdictLaws : Type 0 where
  -- a handler of a send is about the packets that its enter hands, in the slots that it names
  pub hands : (c : Inputs) (s : State) (a : AdapterNo) (x : CtxNo) (h : Handler) (words : List ℕ) (writes : List Write) → is_send h ≡ true → x.0 < length s.contexts
      → subject (after c s (entries.Enter (Some a) x h words writes)) x ≡ handed_to s a.0 h words
  -- and one of a query or set about the least request that is asked
  pub asks : (c : Inputs) (s : State) (a : AdapterNo) (x : CtxNo) (h : Handler) (words : List ℕ) (writes : List Write) → is_ask h ≡ true → x.0 < length s.contexts
      → first (subject (after c s (entries.Enter (Some a) x h words writes)) x) ≡ first_asked s.owner a.0
  -- a handler that leaves at another level than it began at, or with a lock, breaks rule 7, whatever it answers
  pub uneven : (c : Inputs) (s : State) (x : CtxNo) (eax : ℕ) → leaves_even s x ≡ false → leaves c s x eax ≡ Breaking 7
  -- what is drawn stands behind the leave
  pub stand : (c : Inputs) (s : State) (x : CtxNo) (eax : ℕ) (es : List Entry) → leaves c s x eax ≡ Draws es → (after c s (entries.Leave x eax)).next ≡ Verdicts es
  -- and its first entry must stand next
  pub due : (c : Inputs) (s : State) (x : CtxNo) (eax : ℕ) (e : Entry) (es : List Entry) → leaves c s x eax ≡ Draws (e ∷ es) → must (after c s (entries.Leave x eax)) ≡ Some (Exactly e)
  -- PENDING is no verdict
  pub waits : (c : Inputs) (s : State) (x : CtxNo) (a : AdapterNo) (h : Handler) → may_wait h ≡ true → IsLeaving s x a h → leaves c s x pending ≡ Draws []
  -- every other status of a send completes its packet, but RESOURCES of a serialized miniport
  pub completes : (c : Inputs) (s : State) (x : CtxNo) (a : AdapterNo) (k eax : ℕ) → IsLeaving s x a handler.Send → subject s x ≡ k ∷ [] → at_miniport s.owner k ≡ true
      → eax ≢ pending → (serialized s.owner a.0 && (eax == resources)) ≡ false → leaves c s x eax ≡ Draws (complete k eax ∷ [])
  -- which gives it back
  pub goes_back : (c : Inputs) (s : State) (x : CtxNo) (a : AdapterNo) (k : ℕ) → IsLeaving s x a handler.Send → subject s x ≡ k ∷ [] → at_miniport s.owner k ≡ true
      → serialized s.owner a.0 ≡ true → leaves c s x resources ≡ Draws (requeue k ∷ [])
  -- a verdict on a packet that the miniport has no more breaks rule 1
  pub twice : (c : Inputs) (s : State) (x : CtxNo) (a : AdapterNo) (k eax : ℕ) → IsLeaving s x a handler.Send → subject s x ≡ k ∷ [] → at_miniport s.owner k ≡ false
      → eax ≢ pending → leaves c s x eax ≡ Breaking 1
  -- an array: a serialized miniport answers by the status of each packet, whatever is in EAX; any other by calls alone
  pub array : (c : Inputs) (s : State) (x : CtxNo) (a : AdapterNo) (eax : ℕ) (es : List Entry) → IsLeaving s x a handler.SendPackets → serialized s.owner a.0 ≡ true
      → leaves c s x eax ≡ Draws es → AreVerdicts s (subject s x) es
  pub none : (c : Inputs) (s : State) (x : CtxNo) (a : AdapterNo) (eax : ℕ) → IsLeaving s x a handler.SendPackets → serialized s.owner a.0 ≡ false → leaves c s x eax ≡ Draws []
  -- a query that succeeds is answered with the bytes that the miniport says it wrote, at most as many as it was asked for
  pub learns : (c : Inputs) (s : State) (x : CtxNo) (a : AdapterNo) (h : Handler) (r oid n : ℕ) (row : Request) → is_ask h ≡ true → IsLeaving s x a h → first (subject s x) ≡ Some r
      → handed_request s a.0 ≡ Some r → slice_get s.owner.requests r ≡ Some row → row.question ≡ Query oid n → written_count s a.0 ≤ n
      → leaves c s x success ≡ Draws (entries.Answer (record { 0 = r }) (record { 0 = success }) (bytes_from (cells s) (request_bytes a.0).first.0 (written_count s a.0)) ∷ [])
  -- and one that fails, and a set, without bytes
  pub fails : (c : Inputs) (s : State) (x : CtxNo) (a : AdapterNo) (h : Handler) (r eax : ℕ) (row : Request) → is_ask h ≡ true → IsLeaving s x a h → first (subject s x) ≡ Some r
      → handed_request s a.0 ≡ Some r → slice_get s.owner.requests r ≡ Some row → eax ≢ pending → (is_set row.question ≡ true) ⊎ (eax ≢ success)
      → leaves c s x eax ≡ Draws (entries.Answer (record { 0 = r }) (record { 0 = eax }) [] ∷ [])
  -- an answer to a request that was answered by a call already breaks rule 3
  pub answered : (c : Inputs) (s : State) (x : CtxNo) (a : AdapterNo) (h : Handler) (r eax : ℕ) (row : Request) → is_ask h ≡ true → IsLeaving s x a h → first (subject s x) ≡ Some r
      → handed_request s a.0 ≢ Some r → slice_get s.owner.requests r ≡ Some row → eax ≢ pending → leaves c s x eax ≡ Breaking 3
  -- a reset that is not PENDING ends
  pub resets : (c : Inputs) (s : State) (x : CtxNo) (a : AdapterNo) (eax : ℕ) → IsLeaving s x a handler.Reset → phase_is is_resetting s.owner a.0 ≡ true → eax ≢ pending
      → leaves c s x eax ≡ Draws (entries.ResetEnd a (record { 0 = eax }) ∷ [])
