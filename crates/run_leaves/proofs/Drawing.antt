-- What is drawn from a leave may be written behind it.
use Rattle.std.proofs.Common.{◌≡◌, ℕ, ◌≤◌, ◌<◌, Bool, true, false, not, ◌&&◌, ◌||◌, ◌==◌, cond, List, [], ◌∷◌, Option, Some, None, refl, ap, ◌∙◌, subst, arith, length}
use Rattle.std.specs.Prelude.{slice_get}
use Rattle.std.specs.List.{list_all, position}
use Rattle.std.specs.Option.{option_and_then}
use Rattle.nd_base.specs.declared.numbers.AdapterNo.{AdapterNo}
use Rattle.nd_base.specs.declared.numbers.CtxNo.{CtxNo}
use Rattle.log_fields.specs.declared.field_values.Handler.{Handler}
use Rattle.log_fields.specs.declared.field_values.Handler.TheVariants as handler
use Rattle.log_fields.specs.declared.field_values.Question.TheVariants as questions
use Rattle.call_log.specs.declared.entry.Entry.{Entry}
use Rattle.call_log.specs.declared.entry.Entry.TheVariants as entries
use Rattle.import_answers.specs.Statuses.{success, pending, resources}
use Rattle.owner_machine.specs.declared.rows.Adapter.{Adapter}
use Rattle.owner_machine.specs.declared.rows.Context.{Context}
use Rattle.owner_machine.specs.declared.rows.Context.TheVariants as kept
use Rattle.owner_machine.specs.declared.rows.OpenCall.{OpenCall}
use Rattle.owner_machine.specs.declared.rows.Request.{Request}
use Rattle.owner_machine.specs.declared.rows.RequestPlace.{RequestPlace}
use Rattle.owner_machine.specs.declared.rows.RequestPlace.TheVariants as places
use Rattle.owner_machine.specs.State.{Owner, at, is_resetting, is_stopped, phase_is, stands}
use Rattle.owner_machine.specs.Contexts.{serialized}
use Rattle.owner_machine.specs.Packets.{at_miniport}
use Rattle.owner_machine.specs.Requests.{handed_of, open_of, is_handed, is_open}
use Rattle.owner_machine.specs.Handlers.{adapter_left, adapters_left, is_none, outstanding}
use Rattle.owner_machine.specs.Machine as owners
use Rattle.legal_run.specs.State.{Inputs, State, adapter_in, adapter_of, handler_in, handler_of, is_registered}
use Rattle.legal_run.specs.Owed.{first}
use Rattle.legal_run.specs.Calls.{Drawn, Breaking, Draws, asks, draws_first, drawn, drawn_from, fits, given_back, handed_request, has_attributes, is_at, request_verdict, requeue, complete, slot_status, verdicts}
use Rattle.run_duties.specs.Laws.{StopLaws}
use Rattle.run_facts.specs.Facts.{AdaptersAreGiven, IsOfRun}
use Rattle.run_leaves.specs.Leaving.{MayFollow, is_of_packet}
use Rattle.run_leaves.proofs.Rows.{also_at, and_first, and_second, first_passes, resetting_stands, same_rows, some_pass}

-- a rule that there is; or entries that may be written
abbrev pub IsFit : Inputs → Owner → Drawn → Type 0
IsFit c o (Breaking rule) = (1 ≤ rule) × (rule ≤ 14)
IsFit c o (Draws es) = MayFollow c o es

pub fit_asks : (c : Inputs) (o : Owner) (b : Bool) (rule : ℕ) (d : Drawn) → (1 ≤ rule) × (rule ≤ 14) → (b ≡ true → IsFit c o d) → IsFit c o (asks b rule d)
fit_asks c o true rule d range fit = fit refl
fit_asks c o false rule d range fit = range

fit_either : (c : Inputs) (o : Owner) (b : Bool) (d e : Drawn) → IsFit c o d → IsFit c o e → IsFit c o (cond b d e)
fit_either c o true d e one other = one
fit_either c o false d e one other = other

-- ---- packets

-- rule 1, or entries of packets
abbrev IsOfPackets : Drawn → Type 0
IsOfPackets (Breaking rule) = rule ≡ 1
IsOfPackets (Draws es) = list_all is_of_packet es ≡ true

either_packets : (b : Bool) (d e : Drawn) → IsOfPackets d → IsOfPackets e → IsOfPackets (cond b d e)
either_packets true d e one other = one
either_packets false d e one other = other

back_packets : (s : State) (ks : List ℕ) → list_all is_of_packet (given_back s ks) ≡ true
unfolding given_back
back_packets s [] = refl
back_packets s (k ∷ ks) = by (at_miniport s.owner k) (back_packets s ks)
  where
    by : (b : Bool) → list_all is_of_packet (given_back s ks) ≡ true → list_all is_of_packet (cond b (requeue k ∷ given_back s ks) (given_back s ks)) ≡ true
    by true h = h
    by false h = h

first_packets : (k status : ℕ) (d : Drawn) → IsOfPackets d → IsOfPackets (draws_first (complete k status) d)
first_packets k status (Breaking rule) h = h
first_packets k status (Draws es) h = h

of_packets : (s : State) (f : ℕ → ℕ) (serial : Bool) (ks : List ℕ) → IsOfPackets (verdicts s f serial ks)
unfolding verdicts
of_packets s f serial [] = refl
of_packets s f serial (k ∷ ks) =
    let rest = of_packets s f serial ks in
    either_packets (f k == pending) _ _ rest (either_packets (not (at_miniport s.owner k)) _ _ refl (either_packets (serial && (f k == resources)) _ _ (back_packets s ks) (first_packets k (f k) (verdicts s f serial ks) rest)))

-- of packets, one after the other
pub packets_follow : (c : Inputs) (o : Owner) (es : List Entry) → list_all is_of_packet es ≡ true → MayFollow c o es
packets_follow c o [] h = tt
packets_follow c o (entries.Complete packet status ∷ es) h = h
packets_follow c o (entries.Requeue packet ∷ es) h = h
packets_follow c o (_ ∷ es) h = absurd (cc)

fit_packets : (c : Inputs) (o : Owner) (d : Drawn) → IsOfPackets d → IsFit c o d
fit_packets c o (Breaking rule) h = (omega (arith, h), omega (arith, h))
fit_packets c o (Draws es) h = packets_follow c o es h

-- ---- requests

no_request : Request
no_request = record { driver = record { 0 = 0 }; adapter = record { 0 = 0 }; question = questions.Query 0 0; place = places.Answered; hand = 0 }

handed_is_open : (a : ℕ) (q : Request) → handed_of a q ≡ true → open_of a q ≡ true
handed_is_open a q h = rw (by q.place (and_first (is_handed q.place) (q.adapter.0 == a) h)) (and_second (is_handed q.place) (q.adapter.0 == a) h)
  where
    by : (place : RequestPlace) → is_handed place ≡ true → is_open place ≡ true
    by places.Handed h = refl
    by _ h = absurd (cc)

-- an adapter of which a request is handed has something outstanding
holds_handed : (o : Owner) (a r : ℕ) → is_at r (position (handed_of a) o.requests) ≡ true → 0 < outstanding o a
holds_handed o a r is = by (position (handed_of a) o.requests) refl is
  where
    by : (p : Option ℕ) → position (handed_of a) o.requests ≡ p → is_at r p ≡ true → 0 < outstanding o a
    by None found h = absurd (cc)
    by (Some k) found h =
        let some = some_pass (open_of a) o.requests k (also_at (handed_of a) (open_of a) o.requests k (handed_is_open a) (first_passes (handed_of a) o.requests no_request k found)) in
        omega (arith, some)

-- what the answer to a request needs, behind the leave of its handler
record MayAnswer (c : Inputs) (s : State) (o : Owner) (a : ℕ) : Type 0 where
  pub given : a < length c.adapters
  pub standing : stands o a ≡ true
  pub requests : o.requests ≡ s.owner.requests

fit_request : (c : Inputs) (s : State) (o : Owner) (a status : ℕ) (r : Option ℕ) (row : Option Request) → MayAnswer c s o a → IsFit c o (request_verdict s a status r row)
fit_request c s o a status (Some r) (Some row) may =
    fit_either c o (status == pending) _ _ tt
    (fit_asks c o (is_at r (handed_request s a)) 3 _ (omega arith, omega arith)
    (λ handed. fit_asks c o (fits s a status row.question) 10 _ (omega arith, omega arith)
    (λ fitting. (refl, record { adapter = a; given = may.given; standing = may.standing; holds = holds_handed o a r (ap (λ rows. is_at r (position (handed_of a) rows)) may.requests ∙ handed) }))))
fit_request c s o a status None row may = tt
fit_request c s o a status (Some r) None may = tt

-- ---- by handler

-- behind the leave of a handler that ends nothing of its adapter, the rows are as they were
unchanged : (o : Owner) (x : CtxNo) (eax : ℕ) (a : AdapterNo) (h : Handler) (enter : ℕ) (call : Option OpenCall) → slice_get o.contexts x.0 ≡ Some (kept.Open (Some a) h enter call) → ((row : Adapter) → adapter_left h eax row ≡ row)
    → (owners.after o (entries.Leave x eax)).adapters ≡ o.adapters
unchanged o x eax a h enter call is same = ap (λ y. adapters_left o.adapters y eax) is ∙ same_rows (adapter_left h eax) o.adapters a.0 same

-- an adapter that resets is there still behind the leave of its handler
reset_stays : (o : Owner) (x : CtxNo) (eax : ℕ) (a : AdapterNo) (enter : ℕ) (call : Option OpenCall) → slice_get o.contexts x.0 ≡ Some (kept.Open (Some a) handler.Reset enter call)
    → phase_is is_resetting o a.0 ≡ true → stands (owners.after o (entries.Leave x eax)) a.0 ≡ true
reset_stays o x eax a enter call is resetting =
    ap (λ (rows : List Adapter). at (λ row. not (is_stopped row.phase)) rows a.0) (unchanged o x eax a handler.Reset enter call is (λ row. refl)) ∙ resetting_stands o a.0 resetting

may_answer : AdaptersAreGiven → StopLaws → (c : Inputs) (s : State) (x : CtxNo) (eax : ℕ) (a : AdapterNo) → IsOfRun c s → adapter_of s x.0 ≡ Some a
    → (owners.after s.owner (entries.Leave x eax)).adapters ≡ s.owner.adapters → MayAnswer c s (owners.after s.owner (entries.Leave x eax)) a.0
may_answer given laws c s x eax a of is same = record {
  given = given.inside c s x.0 a of is;
  standing = ap (λ (rows : List Adapter). at (λ row. not (is_stopped row.phase)) rows a.0) same ∙ subst (λ (t : State). adapter_of t x.0 ≡ Some a → stands t.owner a.0 ≡ true) of.reaches.state (λ there. laws.handlers c of.log x.0 a of.reaches.run there) is;
  requests = refl;
}

fit_from : AdaptersAreGiven → StopLaws → (c : Inputs) (s : State) (x : CtxNo) (eax : ℕ) (subject : List ℕ) (a : AdapterNo) (h : Handler) (enter : ℕ) (call : Option OpenCall) → IsOfRun c s
    → slice_get s.owner.contexts x.0 ≡ Some (kept.Open (Some a) h enter call) → IsFit c (owners.after s.owner (entries.Leave x eax)) (drawn_from s a.0 eax subject h)
fit_from given laws c s x eax subject a handler.Send enter call of is = fit_packets c _ _ (of_packets s (λ k. eax) (serialized s.owner a.0) subject)
fit_from given laws c s x eax subject a handler.SendPackets enter call of is = fit_either c _ (serialized s.owner a.0) _ _ (fit_packets c _ _ (of_packets s (slot_status s) true subject)) tt
fit_from given laws c s x eax subject a handler.Query enter call of is =
    fit_request c s _ a.0 eax (first subject) (option_and_then (λ r. slice_get s.owner.requests r) (first subject))
    (may_answer given laws c s x eax a of (ap adapter_in is) (unchanged s.owner x eax a handler.Query enter call is (λ row. refl)))
fit_from given laws c s x eax subject a handler.Set enter call of is =
    fit_request c s _ a.0 eax (first subject) (option_and_then (λ r. slice_get s.owner.requests r) (first subject))
    (may_answer given laws c s x eax a of (ap adapter_in is) (unchanged s.owner x eax a handler.Set enter call is (λ row. refl)))
fit_from given laws c s x eax subject a handler.Reset enter call of is =
    fit_either c _ (eax == pending) _ _ tt
    (fit_asks c _ (phase_is is_resetting s.owner a.0) 4 _ (omega arith, omega arith) (λ resetting. (refl, reset_stays s.owner x eax a enter call is resetting)))
fit_from given laws c s x eax subject a handler.Initialize enter call of is =
    fit_asks c _ (not (eax == pending)) 10 _ (omega arith, omega arith) (λ answered. fit_asks c _ (not (eax == success) || has_attributes s a.0) 14 _ (omega arith, omega arith) (λ ready. tt))
fit_from given laws c s x eax subject a _ enter call of is = tt

-- what is drawn from the leave of a context
pub fit_drawn : AdaptersAreGiven → StopLaws → (c : Inputs) (s : State) (x : CtxNo) (eax : ℕ) (subject : List ℕ) → IsOfRun c s
    → IsFit c (owners.after s.owner (entries.Leave x eax)) (drawn c s (adapter_of s x.0) eax subject (handler_of s x.0))
fit_drawn given laws c s x eax subject of = by (slice_get s.owner.contexts x.0) refl
  where
    entry : (h : Handler) → IsFit c (owners.after s.owner (entries.Leave x eax)) (drawn c s None eax subject h)
    entry h = fit_asks c _ (not (eax == success) || (is_registered s || is_none c.adapters)) 14 _ (omega arith, omega arith) (λ ready. tt)

    by : (y : Option Context) → slice_get s.owner.contexts x.0 ≡ y → IsFit c (owners.after s.owner (entries.Leave x eax)) (drawn c s (adapter_in y) eax subject (handler_in y))
    by (Some (kept.Open (Some a) h enter call)) is = fit_from given laws c s x eax subject a h enter call of is
    by (Some (kept.Open None h enter call)) is = entry h
    by (Some kept.Free) is = entry handler.DriverEntry
    by None is = entry handler.DriverEntry
