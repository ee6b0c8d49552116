-- What a handler is about, and what is drawn from its leave.
use Rattle.std.proofs.Common.{◌≡◌, ◌≢◌, ◌⊎◌, ◌≤◌, ◌<◌, ℕ, Bool, true, false, cond, not, ◌&&◌, ◌==◌, List, [], ◌∷◌, Option, Some, None, refl, sym, ap, ◌∙◌, slice_get, length, inl, inr, arith}
use Rattle.std.specs.Prelude.{map, filter}
use Rattle.std.specs.Option.{option_and_then, option_map, option_or}
use Rattle.std.proofs.lemmas.Bool.{eqb-true, eq-eqb}
use Rattle.std.proofs.lemmas.List.{get_or-set_same}
use Rattle.std.proofs.lemmas.Bool.Decides.{nat_tests}
use Rattle.nd_base.specs.declared.numbers.AdapterNo.{AdapterNo}
use Rattle.nd_base.specs.declared.numbers.CtxNo.{CtxNo}
use Rattle.nd_mem.specs.Space.{bytes_from}
use Rattle.guest_map.specs.Regions.{request_bytes}
use Rattle.log_fields.specs.declared.write.Write.{Write}
use Rattle.log_fields.specs.declared.field_values.Handler.{Handler}
use Rattle.log_fields.specs.declared.field_values.Handler.TheVariants as handler
use Rattle.log_fields.specs.declared.field_values.Question.{Question}
use Rattle.log_fields.specs.declared.field_values.Question.TheVariants.{Query, Set}
use Rattle.call_log.specs.declared.entry.Entry.{Entry}
use Rattle.call_log.specs.declared.entry.Entry.TheVariants as entries
use Rattle.import_answers.specs.Statuses.{success, pending, resources}
use Rattle.owner_machine.specs.declared.rows.Context.{Context}
use Rattle.owner_machine.specs.declared.rows.Context.TheVariants as kept
use Rattle.owner_machine.specs.declared.rows.Request.{Request}
use Rattle.owner_machine.specs.State.{is_resetting, phase_is}
use Rattle.owner_machine.specs.Contexts.{serialized}
use Rattle.owner_machine.specs.Packets.{at_miniport}
use Rattle.owner_machine.specs.Requests.{first_asked, is_set}
use Rattle.owner_machine.specs.Handlers.{behind_leave}
use Rattle.owner_machine.specs.Must.{owner_must, must_behind}
use Rattle.owner_machine.specs.Machine as owners
use Rattle.legal_run.specs.Enters.{handed_to}
use Rattle.legal_run.specs.State.{Inputs, State, Context as RunContext, no_context, Verdicts, adapter_of, handler_of, cells}
use Rattle.legal_run.specs.Owed.{first}
use Rattle.legal_run.specs.Calls.{Drawn, Breaking, Draws, asks, draws_first, leaves, leaves_even, drawn, drawn_from, verdicts, given_back, requeue, complete, slot_status, request_verdict, handed_request, written_count, fits, answer, is_at}
use Rattle.legal_run.specs.After.{after, in_list, begun, leave_next, owner_left, is_breaking}
use Rattle.legal_run.specs.Must.{Owes, Exactly, next_must, taken_first, must}
use Rattle.legal_run.specs.EntryLaws.{is_ask}
use Rattle.legal_run.specs.VerdictLaws.{IsLeaving, is_send, may_wait, subject, AreVerdicts}

-- ---- what a handler is about

pub about_packets : (c : Inputs) (s : State) (a : AdapterNo) (x : CtxNo) (h : Handler) (words : List ℕ) (writes : List Write) → is_send h ≡ true → x.0 < length s.contexts
    → subject (after c s (entries.Enter (Some a) x h words writes)) x ≡ handed_to s a.0 h words
about_packets c s a x handler.Send words writes send less = ap (λ (y : RunContext). y.subject) (get_or-set_same s.contexts x.0 (begun c s a.0 x handler.Send words) no_context less)
about_packets c s a x handler.SendPackets words writes send less = ap (λ (y : RunContext). y.subject) (get_or-set_same s.contexts x.0 (begun c s a.0 x handler.SendPackets words) no_context less)
about_packets c s a x _ words writes send less = absurd (cc)

first_in : (m : Option ℕ) → first (in_list m) ≡ m
first_in None = refl
first_in (Some r) = refl

pub about_request : (c : Inputs) (s : State) (a : AdapterNo) (x : CtxNo) (h : Handler) (words : List ℕ) (writes : List Write) → is_ask h ≡ true → x.0 < length s.contexts
    → first (subject (after c s (entries.Enter (Some a) x h words writes)) x) ≡ first_asked s.owner a.0
about_request c s a x handler.Query words writes ask less =
    ap (λ (y : RunContext). first y.subject) (get_or-set_same s.contexts x.0 (begun c s a.0 x handler.Query words) no_context less) ∙ first_in (first_asked s.owner a.0)
about_request c s a x handler.Set words writes ask less =
    ap (λ (y : RunContext). first y.subject) (get_or-set_same s.contexts x.0 (begun c s a.0 x handler.Set words) no_context less) ∙ first_in (first_asked s.owner a.0)
about_request c s a x _ words writes ask less = absurd (cc)

-- ---- what is drawn stands

pub uneven_breaks : (c : Inputs) (s : State) (x : CtxNo) (eax : ℕ) → leaves_even s x ≡ false → leaves c s x eax ≡ Breaking 7
uneven_breaks c s x eax is = ap (λ b. asks b 7 (drawn c s (adapter_of s x.0) eax (subject s x) (handler_of s x.0))) is

pub drawn_stands : (c : Inputs) (s : State) (x : CtxNo) (eax : ℕ) (es : List Entry) → leaves c s x eax ≡ Draws es → (after c s (entries.Leave x eax)).next ≡ Verdicts es
drawn_stands c s x eax es is = ap (leave_next c s x) is

-- the owner machine asks for nothing behind a leave
nothing_asked : (s : State) (x : CtxNo) (eax : ℕ) → owner_must (owners.after s.owner (entries.Leave x eax)) ≡ None
nothing_asked s x eax = by_context (slice_get s.owner.contexts x.0)
  where
    by_context : (y : Option Context) → must_behind (owners.after s.owner (entries.Leave x eax)) (behind_leave y) ≡ None
    by_context (Some (kept.Open (Some a) h n call)) = refl
    by_context (Some (kept.Open None h n call)) = refl
    by_context (Some kept.Free) = refl
    by_context None = refl

pub first_due : (c : Inputs) (s : State) (x : CtxNo) (eax : ℕ) (e : Entry) (es : List Entry) → leaves c s x eax ≡ Draws (e ∷ es) → must (after c s (entries.Leave x eax)) ≡ Some (Exactly e)
unfolding must
first_due c s x eax e es is =
    let t : State = after c s (entries.Leave x eax) in
    let none : owner_must t.owner ≡ None = ap (λ d. owner_must (owner_left s.owner (entries.Leave x eax) (is_breaking d))) is ∙ nothing_asked s x eax in
    ap (λ n. option_or (taken_first n) (option_or (option_map Owes (owner_must t.owner)) (next_must n))) (drawn_stands c s x eax (e ∷ es) is)
    ∙ ap (λ m. option_or (option_map Owes m) (Some (Exactly e))) none

-- ---- the handler's row of the table

leaving : (c : Inputs) (s : State) (x : CtxNo) (a : AdapterNo) (h : Handler) (eax : ℕ) → IsLeaving s x a h → leaves c s x eax ≡ drawn_from s a.0 eax (subject s x) h
leaving c s x a h eax is =
    ap (λ b. asks b 7 (drawn c s (adapter_of s x.0) eax (subject s x) (handler_of s x.0))) is.even
    ∙ (ap (λ (b : Option AdapterNo). drawn c s b eax (subject s x) (handler_of s x.0)) is.adapter ∙ ap (λ (k : Handler). drawn_from s a.0 eax (subject s x) k) is.handler)

other : (m n : ℕ) → m ≢ n → (m == n) ≡ false
other m n differs = by_test (m == n) refl
  where
    by_test : (b : Bool) → (m == n) ≡ b → b ≡ false
    by_test true is = absurd (differs (eqb-true m n is))
    by_test false is = refl

-- ---- PENDING

none_pending : (s : State) (serial : Bool) (ks : List ℕ) → verdicts s (λ k. pending) serial ks ≡ Draws []
unfolding verdicts
none_pending s serial [] = refl
none_pending s serial (k ∷ ks) = none_pending s serial ks

request_waits : (s : State) (a : ℕ) (m : Option ℕ) (row : Option Request) → request_verdict s a pending m row ≡ Draws []
request_waits s a (Some r) (Some row) = refl
request_waits s a None row = refl
request_waits s a (Some r) None = refl

pub pending_waits : (c : Inputs) (s : State) (x : CtxNo) (a : AdapterNo) (h : Handler) → may_wait h ≡ true → IsLeaving s x a h → leaves c s x pending ≡ Draws []
pending_waits c s x a handler.Send waits is = leaving c s x a handler.Send pending is ∙ none_pending s (serialized s.owner a.0) (subject s x)
pending_waits c s x a handler.Query waits is = leaving c s x a handler.Query pending is ∙ request_waits s a.0 _ _
pending_waits c s x a handler.Set waits is = leaving c s x a handler.Set pending is ∙ request_waits s a.0 _ _
pending_waits c s x a handler.Reset waits is = leaving c s x a handler.Reset pending is
pending_waits c s x a _ waits is = absurd (cc)

-- ---- a send

-- a verdict on one packet
one_packet : (s : State) (status_of : ℕ → ℕ) (serial : Bool) (k : ℕ) → verdicts s status_of serial (k ∷ [])
    ≡ cond (status_of k == pending) (Draws []) (cond (not (at_miniport s.owner k)) (Breaking 1) (cond (serial && (status_of k == resources)) (Draws (requeue k ∷ [])) (Draws (complete k (status_of k) ∷ []))))
unfolding verdicts given_back
one_packet s status_of serial k = refl

sent : (c : Inputs) (s : State) (x : CtxNo) (a : AdapterNo) (k eax : ℕ) → IsLeaving s x a handler.Send → subject s x ≡ k ∷ [] → leaves c s x eax
    ≡ cond (eax == pending) (Draws []) (cond (not (at_miniport s.owner k)) (Breaking 1) (cond (serialized s.owner a.0 && (eax == resources)) (Draws (requeue k ∷ [])) (Draws (complete k eax ∷ []))))
sent c s x a k eax is of =
    leaving c s x a handler.Send eax is ∙ (ap (λ (ks : List ℕ). verdicts s (λ i. eax) (serialized s.owner a.0) ks) of ∙ one_packet s (λ i. eax) (serialized s.owner a.0) k)

pub send_completes : (c : Inputs) (s : State) (x : CtxNo) (a : AdapterNo) (k eax : ℕ) → IsLeaving s x a handler.Send → subject s x ≡ k ∷ [] → at_miniport s.owner k ≡ true
    → eax ≢ pending → (serialized s.owner a.0 && (eax == resources)) ≡ false → leaves c s x eax ≡ Draws (complete k eax ∷ [])
send_completes c s x a k eax is of held ends keeps = sent c s x a k eax is of ∙ rw (other eax pending ends) (rw held (rw keeps refl))

pub send_goes_back : (c : Inputs) (s : State) (x : CtxNo) (a : AdapterNo) (k : ℕ) → IsLeaving s x a handler.Send → subject s x ≡ k ∷ [] → at_miniport s.owner k ≡ true
    → serialized s.owner a.0 ≡ true → leaves c s x resources ≡ Draws (requeue k ∷ [])
send_goes_back c s x a k is of held serial = sent c s x a k resources is of ∙ rw held (rw serial refl)

pub send_twice : (c : Inputs) (s : State) (x : CtxNo) (a : AdapterNo) (k eax : ℕ) → IsLeaving s x a handler.Send → subject s x ≡ k ∷ [] → at_miniport s.owner k ≡ false
    → eax ≢ pending → leaves c s x eax ≡ Breaking 1
send_twice c s x a k eax is of gone ends = sent c s x a k eax is of ∙ rw (other eax pending ends) (rw gone refl)

-- ---- an array

back_are : (s : State) (ks : List ℕ) → given_back s ks ≡ map requeue (filter (at_miniport s.owner) ks)
unfolding given_back
back_are s [] = refl
back_are s (k ∷ ks) = by_place (at_miniport s.owner k) (back_are s ks)
  where
    by_place : (b : Bool) → given_back s ks ≡ map requeue (filter (at_miniport s.owner) ks)
        → cond b (requeue k ∷ given_back s ks) (given_back s ks) ≡ map requeue (cond b (k ∷ filter (at_miniport s.owner) ks) (filter (at_miniport s.owner) ks))
    by_place true more = ap (λ (es : List Entry). requeue k ∷ es) more
    by_place false more = more

some_drawn : (ds es : List Entry) → Draws ds ≡ Draws es → ds ≡ es
some_drawn ds es h = cc

both_true : (a b : Bool) → (a && b) ≡ true → b ≡ true
both_true true b h = h
both_true false b h = absurd (cc)

are_verdicts : (s : State) (ks : List ℕ) (es : List Entry) → verdicts s (slot_status s) true ks ≡ Draws es → AreVerdicts s ks es
unfolding verdicts
are_verdicts s [] es is = sym (some_drawn [] es is)
are_verdicts s (k ∷ ks) es is = by_status (slot_status s k == pending) refl is (λ fs. are_verdicts s ks fs)
  where
    by_rest : at_miniport s.owner k ≡ true → (d : Drawn) → draws_first (complete k (slot_status s k)) d ≡ Draws es → ((fs : List Entry) → d ≡ Draws fs → AreVerdicts s ks fs) → AreVerdicts s (k ∷ ks) es
    by_rest held (Breaking rule) h more = absurd (cc)
    by_rest held (Draws fs) h more = inr (inr (held, fs, sym (some_drawn (complete k (slot_status s k) ∷ fs) es h), more fs refl))

    by_resources : (b : Bool) → (slot_status s k == resources) ≡ b → at_miniport s.owner k ≡ true
        → cond b (Draws (requeue k ∷ given_back s ks)) (draws_first (complete k (slot_status s k)) (verdicts s (slot_status s) true ks)) ≡ Draws es
        → ((fs : List Entry) → verdicts s (slot_status s) true ks ≡ Draws fs → AreVerdicts s ks fs) → AreVerdicts s (k ∷ ks) es
    by_resources true same held h more =
        inr (inl (held, eqb-true (slot_status s k) resources same, sym (some_drawn (requeue k ∷ given_back s ks) es h) ∙ ap (λ (fs : List Entry). requeue k ∷ fs) (back_are s ks)))
    by_resources false same held h more = by_rest held (verdicts s (slot_status s) true ks) h more

    by_place : (b : Bool) → at_miniport s.owner k ≡ b
        → cond (not b) (Breaking 1) (cond (slot_status s k == resources) (Draws (requeue k ∷ given_back s ks)) (draws_first (complete k (slot_status s k)) (verdicts s (slot_status s) true ks))) ≡ Draws es
        → ((fs : List Entry) → verdicts s (slot_status s) true ks ≡ Draws fs → AreVerdicts s ks fs) → AreVerdicts s (k ∷ ks) es
    by_place false gone h more = absurd (cc)
    by_place true held h more = by_resources (slot_status s k == resources) refl held h more

    by_status : (b : Bool) → (slot_status s k == pending) ≡ b
        → cond b (verdicts s (slot_status s) true ks) (cond (not (at_miniport s.owner k)) (Breaking 1)
        (cond (slot_status s k == resources) (Draws (requeue k ∷ given_back s ks)) (draws_first (complete k (slot_status s k)) (verdicts s (slot_status s) true ks)))) ≡ Draws es
        → ((fs : List Entry) → verdicts s (slot_status s) true ks ≡ Draws fs → AreVerdicts s ks fs) → AreVerdicts s (k ∷ ks) es
    by_status true same h more = inl (eqb-true (slot_status s k) pending same, more es h)
    by_status false same h more = by_place (at_miniport s.owner k) refl h more

pub array_verdicts : (c : Inputs) (s : State) (x : CtxNo) (a : AdapterNo) (eax : ℕ) (es : List Entry) → IsLeaving s x a handler.SendPackets → serialized s.owner a.0 ≡ true
    → leaves c s x eax ≡ Draws es → AreVerdicts s (subject s x) es
array_verdicts c s x a eax es is serial draws =
    are_verdicts s (subject s x) es
    (ap (λ b. cond b (verdicts s (slot_status s) true (subject s x)) (Draws [])) (sym serial) ∙ (sym (leaving c s x a handler.SendPackets eax is) ∙ draws))

pub array_none : (c : Inputs) (s : State) (x : CtxNo) (a : AdapterNo) (eax : ℕ) → IsLeaving s x a handler.SendPackets → serialized s.owner a.0 ≡ false → leaves c s x eax ≡ Draws []
array_none c s x a eax is serial = leaving c s x a handler.SendPackets eax is ∙ rw serial refl

-- ---- a query or set

asking : (c : Inputs) (s : State) (x : CtxNo) (a : AdapterNo) (h : Handler) (r eax : ℕ) (row : Request) → is_ask h ≡ true → IsLeaving s x a h → first (subject s x) ≡ Some r
    → slice_get s.owner.requests r ≡ Some row → leaves c s x eax ≡ request_verdict s a.0 eax (Some r) (Some row)
asking c s x a h r eax row ask is of there = leaving c s x a h eax is ∙ (by_handler h ask ∙ (ap (λ m. request_verdict s a.0 eax m (option_and_then (λ i. slice_get s.owner.requests i) m)) of ∙ ap (request_verdict s a.0 eax (Some r)) there))
  where
    by_handler : (k : Handler) → is_ask k ≡ true → drawn_from s a.0 eax (subject s x) k ≡ request_verdict s a.0 eax (first (subject s x)) (option_and_then (λ i. slice_get s.owner.requests i) (first (subject s x)))
    by_handler handler.Query ask = refl
    by_handler handler.Set ask = refl
    by_handler _ ask = absurd (cc)

own_request : (s : State) (a r : ℕ) → handed_request s a ≡ Some r → is_at r (handed_request s a) ≡ true
own_request s a r is = ap (is_at r) is ∙ eq-eqb r r refl

enough : (s : State) (a oid n : ℕ) → written_count s a ≤ n → fits s a success (Query oid n) ≡ true
enough s a oid n less = grind (arith, nat_tests)

pub query_learns : (c : Inputs) (s : State) (x : CtxNo) (a : AdapterNo) (h : Handler) (r oid n : ℕ) (row : Request) → is_ask h ≡ true → IsLeaving s x a h → first (subject s x) ≡ Some r
    → handed_request s a.0 ≡ Some r → slice_get s.owner.requests r ≡ Some row → row.question ≡ Query oid n → written_count s a.0 ≤ n
    → leaves c s x success ≡ Draws (entries.Answer (record { 0 = r }) (record { 0 = success }) (bytes_from (cells s) (request_bytes a.0).first.0 (written_count s a.0)) ∷ [])
query_learns c s x a h r oid n row ask is of handed there question less =
    asking c s x a h r success row ask is of there
    ∙ (ap (λ b. asks b 3 (asks (fits s a.0 success row.question) 10 (Draws (answer s a.0 success r row.question ∷ [])))) (own_request s a.0 r handed)
    ∙ (ap (λ (q : Question). asks (fits s a.0 success q) 10 (Draws (answer s a.0 success r q ∷ []))) question
    ∙ ap (λ b. asks b 10 (Draws (answer s a.0 success r (Query oid n) ∷ []))) (enough s a.0 oid n less)))

pub ask_fails : (c : Inputs) (s : State) (x : CtxNo) (a : AdapterNo) (h : Handler) (r eax : ℕ) (row : Request) → is_ask h ≡ true → IsLeaving s x a h → first (subject s x) ≡ Some r
    → handed_request s a.0 ≡ Some r → slice_get s.owner.requests r ≡ Some row → eax ≢ pending → (is_set row.question ≡ true) ⊎ (eax ≢ success)
    → leaves c s x eax ≡ Draws (entries.Answer (record { 0 = r }) (record { 0 = eax }) [] ∷ [])
ask_fails c s x a h r eax row ask is of handed there ends empty =
    asking c s x a h r eax row ask is of there
    ∙ (ap (λ b. cond b (Draws []) (asks (is_at r (handed_request s a.0)) 3 (asks (fits s a.0 eax row.question) 10 (Draws (answer s a.0 eax r row.question ∷ []))))) (other eax pending ends)
    ∙ (ap (λ b. asks b 3 (asks (fits s a.0 eax row.question) 10 (Draws (answer s a.0 eax r row.question ∷ [])))) (own_request s a.0 r handed) ∙ by_question row.question empty))
  where
    by_question : (q : Question) → (is_set q ≡ true) ⊎ (eax ≢ success)
        → asks (fits s a.0 eax q) 10 (Draws (answer s a.0 eax r q ∷ [])) ≡ Draws (entries.Answer (record { 0 = r }) (record { 0 = eax }) [] ∷ [])
    by_question (Set oid bytes) empty = refl
    by_question (Query oid n) (inl set) = absurd (cc)
    by_question (Query oid n) (inr fails) = rw (other eax success fails) refl

pub ask_answered : (c : Inputs) (s : State) (x : CtxNo) (a : AdapterNo) (h : Handler) (r eax : ℕ) (row : Request) → is_ask h ≡ true → IsLeaving s x a h → first (subject s x) ≡ Some r
    → handed_request s a.0 ≢ Some r → slice_get s.owner.requests r ≡ Some row → eax ≢ pending → leaves c s x eax ≡ Breaking 3
ask_answered c s x a h r eax row ask is of gone there ends =
    asking c s x a h r eax row ask is of there
    ∙ (ap (λ b. cond b (Draws []) (asks (is_at r (handed_request s a.0)) 3 (asks (fits s a.0 eax row.question) 10 (Draws (answer s a.0 eax r row.question ∷ []))))) (other eax pending ends)
    ∙ ap (λ b. asks b 3 (asks (fits s a.0 eax row.question) 10 (Draws (answer s a.0 eax r row.question ∷ [])))) (by_request (handed_request s a.0) gone))
  where
    by_request : (m : Option ℕ) → m ≢ Some r → is_at r m ≡ false
    by_request None gone = refl
    by_request (Some i) gone = other i r (λ same. gone (ap Some same))

-- ---- a reset

pub reset_ends : (c : Inputs) (s : State) (x : CtxNo) (a : AdapterNo) (eax : ℕ) → IsLeaving s x a handler.Reset → phase_is is_resetting s.owner a.0 ≡ true → eax ≢ pending
    → leaves c s x eax ≡ Draws (entries.ResetEnd a (record { 0 = eax }) ∷ [])
reset_ends c s x a eax is resets ends = leaving c s x a handler.Reset eax is ∙ rw (other eax pending ends) (rw resets refl)
