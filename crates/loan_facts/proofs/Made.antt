-- What a call makes, and what is drawn from a leave: a loan is made only of a packet that is out and on no loan, and each of them once.
use Rattle.std.proofs.Common.{◌≡◌, ℕ, suc, Bool, true, false, cond, not, ◌&&◌, ◌||◌, ◌==◌, List, [], ◌∷◌, map, Option, Some, None, refl, arith}
use Rattle.std.specs.Prelude.{⊤, nat_le, nat_lt, drop, count_by, length, slice_get}
use Rattle.std.specs.Option.{option_and_then}
use Rattle.std.specs.List.{list_any}
use Rattle.std.proofs.lemmas.Bool.{and_parts, or_parts, or_from}
use Rattle.nd_base.specs.declared.numbers.AdapterNo.{AdapterNo}
use Rattle.nd_base.specs.declared.numbers.CtxNo.{CtxNo}
use Rattle.packet_pool.specs.LiveSet.{LiveSet}
use Rattle.log_fields.specs.declared.write.Write.{Write}
use Rattle.log_fields.specs.declared.field_values.Handler.{Handler}
use Rattle.log_fields.specs.declared.field_values.Handler.TheVariants as handler
use Rattle.call_log.specs.declared.entry.Entry.{Entry}
use Rattle.call_log.specs.declared.entry.Entry.TheVariants as entries
use Rattle.guest_world.specs.declared.answer.Reply.{Reply}
use Rattle.import_answers.specs.Outcomes.{Outcome, Breaks, Replies, Picks, PicksDescriptor, Spins, Sleeps, Synchronizes}
use Rattle.import_answers.specs.Ports.{offset_of_port}
use Rattle.import_answers.specs.Statuses.{success, pending, resources}
use Rattle.import_answers.specs.World.{word}
use Rattle.owner_machine.specs.declared.rows.Request.{Request}
use Rattle.owner_machine.specs.Contexts.{serialized, send_complete, indicate_receive_packet, reset_complete, query_complete, set_complete}
use Rattle.owner_machine.specs.Loans.{away_of, wanting}
use Rattle.owner_machine.specs.Handlers.{is_none}
use Rattle.owner_machine.specs.Packets.{at_miniport}
use Rattle.owner_machine.specs.Requests.{is_set}
use Rattle.owner_machine.specs.State.{is_resetting, phase_is}
use Rattle.legal_run.specs.State.{Inputs, State, adapter_of, cells, context_at, handler_of, is_registered}
use Rattle.legal_run.specs.Owed.{first}
use Rattle.legal_run.specs.Frames.{frame_at}
use Rattle.legal_run.specs.Calls as calls
use Rattle.legal_run.specs.Calls.{Did, Broken, Waits, Made, Walked, Fell, Went, Drawn, Breaking, Draws, needs, asks, onto, told, judged, stays_home, is_copied, status_written, indicate, most_loans, may_be_lent, words_from, array_made, completion, ending_of, reset_end, request_end, handed_request, is_port_call, port_entries, served, by_outcome, outcome_of, did, verdicts, given_back, draws_first, request_verdict, drawn_from, drawn, leaves, leaves_even, slot_status}
use Rattle.loan_facts.specs.Lent.{MayBeLent}

-- an entry that makes a loan
abbrev pub is_loan : Entry → Bool
is_loan (entries.Indicate _ _ _ _ _) = true
is_loan _ = false

abbrev pub among : ℕ → List ℕ → Bool
among d ds = list_any (λ b. b == d) ds

-- the packets that entries to come will lend: each may be lent, and stands once; entries without a packet make no loan
abbrev pub ToLend : LiveSet → List Entry → List ℕ → Type 0
ToLend p [] ds = ⊤
ToLend p (e ∷ es) [] = (is_loan e ≡ false) × ToLend p es []
ToLend p (e ∷ es) (d ∷ ds) = MayBeLent p d × (among d ds ≡ false) × ToLend p es ds

pub dropped : (p : LiveSet) (es : List Entry) (ds : List ℕ) → ToLend p es ds → ToLend p (drop 1 es) (drop 1 ds)
dropped p [] ds h = tt
dropped p (e ∷ es) [] h = h.1
dropped p (e ∷ es) (d ∷ ds) h = h.2

-- ---- an array of packets

same_both : (m n : ℕ) → (m == n) ≡ false → (n == m) ≡ false
same_both m n h = grind arith

abbrev Apart : (before ds : List ℕ) → Type 0
Apart before [] = ⊤
Apart before (d ∷ ds) = (among d before ≡ false) × Apart before ds

abbrev Fits : LiveSet → (before : List ℕ) → Walked → Type 0
Fits p before (Fell rule) = ⊤
Fits p before (Went es ds writes) = ToLend p es ds × Apart before ds

once : (d : ℕ) (before ds : List ℕ) → Apart (d ∷ before) ds → among d ds ≡ false
once d before [] h = refl
once d before (e ∷ ds) h = or_from (e == d) (among d ds) (same_both d e (or_parts _ _ h.0).0) (once d before ds h.1)

apart_still : (d : ℕ) (before ds : List ℕ) → Apart (d ∷ before) ds → Apart before ds
apart_still d before [] h = tt
apart_still d before (e ∷ ds) h = ((or_parts _ _ h.0).1, apart_still d before ds h.1)

not_true : (b : Bool) → not b ≡ true → b ≡ false
not_true true h = absurd (cc)
not_true false h = refl

onto_fits : (s : State) (before : List ℕ) (e : Entry) (packet : ℕ) (status : List Write) (w : Walked) → may_be_lent s before packet ≡ true → Fits s.world.pools (packet ∷ before) w
    → Fits s.world.pools before (onto e packet status w)
onto_fits s before e packet status (Fell rule) may h = tt
onto_fits s before e packet status (Went es ds writes) may h =
    let parts = and_parts _ _ may in
    let more = and_parts _ _ parts.1 in (
      (record { out = parts.0; kept = not_true _ more.0 }, once packet before ds h.1, h.0),
      (not_true _ more.1, apart_still packet before ds h.1),
    )

told_fits : (s : State) (a j away : ℕ) (before : List ℕ) (packet : ℕ) (bytes : List ℕ) (home gone : Walked) → may_be_lent s before packet ≡ true → Fits s.world.pools (packet ∷ before) home
    → Fits s.world.pools (packet ∷ before) gone → Fits s.world.pools before (told s a j away packet bytes home gone)
told_fits s a j away before packet bytes home gone may one other = by_tests (stays_home s a (wanting s.owner a bytes) (is_copied s packet)) (nat_lt away most_loans)
  where
    e : Entry
    e = indicate s a j bytes (is_copied s packet)

    status : List Write
    status = status_written s a packet (wanting s.owner a bytes)

    by_tests : (home_stays room : Bool) → Fits s.world.pools before (cond home_stays (onto e packet status home) (cond room (onto e packet status gone) (Fell 12)))
    by_tests true room = onto_fits s before e packet status home may one
    by_tests false true = onto_fits s before e packet status gone may other
    by_tests false false = tt

judged_fits : (s : State) (a j away : ℕ) (before : List ℕ) (packet : ℕ) (lendable : Bool) (frame : Option (List ℕ)) (home gone : Walked) → may_be_lent s before packet ≡ lendable
    → Fits s.world.pools (packet ∷ before) home → Fits s.world.pools (packet ∷ before) gone → Fits s.world.pools before (judged s a j away packet lendable frame home gone)
judged_fits s a j away before packet false frame home gone may one other = tt
judged_fits s a j away before packet true None home gone may one other = tt
judged_fits s a j away before packet true (Some bytes) home gone may one other = told_fits s a j away before packet bytes home gone may one other

array_fits : (s : State) (a j away : ℕ) (before packets : List ℕ) → Fits s.world.pools before (calls.indicated s a j away before packets)
unfolding calls.indicated
array_fits s a j away before [] = (tt, tt)
array_fits s a j away before (packet ∷ packets) =
    judged_fits s a j away before packet (may_be_lent s before packet) (frame_at s.world.layout (cells s) packet) _ _ refl
    (array_fits s a (suc j) away (packet ∷ before) packets) (array_fits s a (suc j) (suc away) (packet ∷ before) packets)

-- ---- by what a call does

abbrev pub Lends : LiveSet → Did → Type 0
Lends p (Made es ds writes) = ToLend p es ds
Lends p _ = ⊤

needed : (p : LiveSet) (b : Bool) (rule : ℕ) (d : Did) → Lends p d → Lends p (needs b rule d)
needed p true rule d h = h
needed p false rule d h = tt

either : (p : LiveSet) (b : Bool) (d e : Did) → Lends p d → Lends p e → Lends p (cond b d e)
either p true d e one other = one
either p false d e one other = other

made_fits : (p : LiveSet) (n : ℕ) (w : Walked) → Fits p [] w → Lends p (array_made n w)
made_fits p n (Fell rule) h = tt
made_fits p n (Went es ds writes) h = needed p (nat_le n calls.most_packets) 12 (Made es ds writes) h.0

indication_lends : (s : State) (a array n : ℕ) → Lends s.world.pools (calls.indication s a array n)
indication_lends s a array n = made_fits s.world.pools n _ (array_fits s a (length s.owner.loans) (count_by (away_of a) s.owner.loans) [] (words_from s array n))

ending_lends : (s : State) (k status : ℕ) → is_loan (ending_of s k status) ≡ false
ending_lends s k status = by_test (at_miniport s.owner k)
  where
    by_test : (b : Bool) → is_loan (cond b (entries.Complete (record { 0 = k }) (record { 0 = status })) (entries.Late (record { 0 = k }))) ≡ false
    by_test true = refl
    by_test false = refl

completion_lends : (s : State) (status : ℕ) (k : Option ℕ) → Lends s.world.pools (completion s status k)
completion_lends s status None = tt
completion_lends s status (Some k) = needed s.world.pools (not (status == pending)) 10 (calls.makes (ending_of s k status ∷ [])) (ending_lends s k status, tt)

one_made : (p : LiveSet) (b : Bool) (rule : ℕ) (d : Bool) (other : ℕ) (e : Entry) → is_loan e ≡ false → Lends p (needs b rule (needs d other (calls.makes (e ∷ []))))
one_made p true rule true other e is = (is, tt)
one_made p true rule false other e is = tt
one_made p false rule d other e is = tt

answered_lends : (s : State) (a : ℕ) (set : Bool) (status : ℕ) (r : Option ℕ) (row : Option Request) → Lends s.world.pools (calls.answered s a set status r row)
answered_lends s a set status (Some r) (Some row) =
    one_made s.world.pools (calls.same_kind set (is_set row.question)) 3 (not (status == pending) && calls.fits s a status row.question) 10 (calls.answer s a status r row.question) refl
answered_lends s a set status (Some r) None = tt
answered_lends s a set status None row = tt

reset_lends : (s : State) (a status : ℕ) → Lends s.world.pools (reset_end s a status)
reset_lends s a status =
    one_made s.world.pools (phase_is is_resetting s.owner a) 4 (not (status == pending)) 10 (entries.ResetEnd (record { 0 = a }) (record { 0 = status })) refl

request_lends : (s : State) (a : ℕ) (set : Bool) (status : ℕ) → Lends s.world.pools (request_end s a set status)
request_lends s a set status = answered_lends s a set status (handed_request s a) (option_and_then (λ r. slice_get s.owner.requests r) (handed_request s a))

wires_lend : (p : LiveSet) (a : AdapterNo) (frames : List (List ℕ)) → ToLend p (map (λ frame. entries.WireOut a frame) frames) []
wires_lend p a [] = tt
wires_lend p a (frame ∷ frames) = (refl, wires_lend p a frames)

port_lends : (s : State) (a import : ℕ) (words : List ℕ) (reply : Reply) (port : Option ℕ) → ToLend s.world.pools (port_entries s a import words reply port) []
port_lends s a import words reply None = tt
port_lends s a import words reply (Some port) = (refl, wires_lend s.world.pools (record { 0 = a }) reply.sent)

served_lends : (s : State) (a : Option AdapterNo) (import : ℕ) (words : List ℕ) (reply : Reply) → Lends s.world.pools (served s a import words reply)
served_lends s None import words reply = tt
served_lends s (Some a) import words reply =
    let p = s.world.pools in
    either p (import == send_complete) _ _ (completion_lends s (word words 3) (calls.handed_at s a.0 (word words 2)))
    (either p (import == indicate_receive_packet) _ _ (indication_lends s a.0 (word words 2) (word words 3))
    (either p (import == reset_complete) _ _ (reset_lends s a.0 (word words 2))
    (either p (import == query_complete) _ _ (request_lends s a.0 false (word words 2))
    (either p (import == set_complete) _ _ (request_lends s a.0 true (word words 2))
    (either p (is_port_call import) _ _ (port_lends s a.0 import words reply (offset_of_port s.world (Some a) (word words 1))) tt)))))

outcome_lends : (s : State) (a : Option AdapterNo) (import : ℕ) (words : List ℕ) (o : Outcome) → Lends s.world.pools (by_outcome s a import words o)
outcome_lends s a import words (Replies reply world) = served_lends s a import words reply
outcome_lends s a import words (Breaks rule) = tt
outcome_lends s a import words (Picks n reply world) = tt
outcome_lends s a import words (PicksDescriptor kind handle reply world) = tt
outcome_lends s a import words (Spins holder world) = tt
outcome_lends s a import words (Sleeps moment) = tt
outcome_lends s a import words Synchronizes = tt

pub did_lends : (s : State) (x : CtxNo) (import : ℕ) (words : List ℕ) → Lends s.world.pools (did s x import words)
did_lends s x import words = outcome_lends s (adapter_of s x.0) import words (outcome_of s x import words)

-- ---- what is drawn from a leave makes no loan

abbrev pub Plain : LiveSet → Drawn → Type 0
Plain p (Breaking rule) = ⊤
Plain p (Draws es) = ToLend p es []

asked : (p : LiveSet) (b : Bool) (rule : ℕ) (d : Drawn) → Plain p d → Plain p (asks b rule d)
asked p true rule d h = h
asked p false rule d h = tt

first_plain : (p : LiveSet) (e : Entry) (d : Drawn) → is_loan e ≡ false → Plain p d → Plain p (draws_first e d)
first_plain p e (Breaking rule) is h = tt
first_plain p e (Draws es) is h = (is, h)

back_plain : (s : State) (ks : List ℕ) → ToLend s.world.pools (given_back s ks) []
unfolding given_back
back_plain s [] = tt
back_plain s (k ∷ ks) = by_test (at_miniport s.owner k) (back_plain s ks)
  where
    by_test : (b : Bool) → ToLend s.world.pools (given_back s ks) [] → ToLend s.world.pools (cond b (calls.requeue k ∷ given_back s ks) (given_back s ks)) []
    by_test true h = (refl, h)
    by_test false h = h

verdicts_plain : (s : State) (status_of : ℕ → ℕ) (serial : Bool) (ks : List ℕ) → Plain s.world.pools (verdicts s status_of serial ks)
unfolding verdicts
verdicts_plain s status_of serial [] = tt
verdicts_plain s status_of serial (k ∷ ks) =
    by_tests (status_of k == pending) (not (at_miniport s.owner k)) (serial && (status_of k == resources)) (verdicts_plain s status_of serial ks)
  where
    by_tests : (waits gone back : Bool) → Plain s.world.pools (verdicts s status_of serial ks)
        → Plain s.world.pools
        (cond waits (verdicts s status_of serial ks)
        (cond gone (Breaking 1) (cond back (Draws (calls.requeue k ∷ given_back s ks)) (draws_first (calls.complete k (status_of k)) (verdicts s status_of serial ks)))))
    by_tests true gone back h = h
    by_tests false true back h = tt
    by_tests false false true h = (refl, back_plain s ks)
    by_tests false false false h = first_plain s.world.pools (calls.complete k (status_of k)) _ refl h

either_plain : (p : LiveSet) (b : Bool) (d e : Drawn) → Plain p d → Plain p e → Plain p (cond b d e)
either_plain p true d e one other = one
either_plain p false d e one other = other

one_drawn : (p : LiveSet) (b : Bool) (rule : ℕ) (d : Bool) (other : ℕ) (e : Entry) → is_loan e ≡ false → Plain p (asks b rule (asks d other (Draws (e ∷ []))))
one_drawn p true rule true other e is = (is, tt)
one_drawn p true rule false other e is = tt
one_drawn p false rule d other e is = tt

none_drawn : (p : LiveSet) (b : Bool) (rule : ℕ) (d : Bool) (other : ℕ) → Plain p (asks b rule (asks d other (Draws [])))
none_drawn p true rule true other = tt
none_drawn p true rule false other = tt
none_drawn p false rule d other = tt

request_plain : (s : State) (a status : ℕ) (r : Option ℕ) (row : Option Request) → Plain s.world.pools (request_verdict s a status r row)
request_plain s a status (Some r) (Some row) =
    either_plain s.world.pools (status == pending) (Draws []) (asks (calls.is_at r (handed_request s a)) 3 (asks (calls.fits s a status row.question) 10 (Draws (calls.answer s a status r row.question ∷ [])))) tt
    (one_drawn s.world.pools (calls.is_at r (handed_request s a)) 3 (calls.fits s a status row.question) 10 (calls.answer s a status r row.question) refl)
request_plain s a status (Some r) None = tt
request_plain s a status None row = tt

from_plain : (s : State) (a eax : ℕ) (subject : List ℕ) (h : Handler) → Plain s.world.pools (drawn_from s a eax subject h)
from_plain s a eax subject handler.Send = verdicts_plain s (λ k. eax) (serialized s.owner a) subject
from_plain s a eax subject handler.SendPackets = either_plain s.world.pools (serialized s.owner a) (verdicts s (slot_status s) true subject) (Draws []) (verdicts_plain s (slot_status s) true subject) tt
from_plain s a eax subject handler.Query = request_plain s a eax (first subject) (option_and_then (λ r. slice_get s.owner.requests r) (first subject))
from_plain s a eax subject handler.Set = request_plain s a eax (first subject) (option_and_then (λ r. slice_get s.owner.requests r) (first subject))
from_plain s a eax subject handler.Reset =
    either_plain s.world.pools (eax == pending) (Draws []) (asks (phase_is is_resetting s.owner a) 4 (Draws (entries.ResetEnd (record { 0 = a }) (record { 0 = eax }) ∷ []))) tt
    (asked s.world.pools (phase_is is_resetting s.owner a) 4 (Draws (entries.ResetEnd (record { 0 = a }) (record { 0 = eax }) ∷ [])) (refl, tt))
from_plain s a eax subject handler.Initialize = none_drawn s.world.pools (not (eax == pending)) 10 (not (eax == success) || calls.has_attributes s a) 14
from_plain s a eax subject _ = tt

drawn_plain : (c : Inputs) (s : State) (a : Option AdapterNo) (eax : ℕ) (subject : List ℕ) (h : Handler) → Plain s.world.pools (drawn c s a eax subject h)
drawn_plain c s None eax subject h = asked s.world.pools (not (eax == success) || (is_registered s || is_none c.adapters)) 14 (Draws []) tt
drawn_plain c s (Some a) eax subject h = from_plain s a.0 eax subject h

pub leaves_plain : (c : Inputs) (s : State) (x : CtxNo) (eax : ℕ) → Plain s.world.pools (leaves c s x eax)
leaves_plain c s x eax = asked s.world.pools (leaves_even s x) 7 (drawn c s (adapter_of s x.0) eax (context_at s x.0).subject (handler_of s x.0)) (drawn_plain c s (adapter_of s x.0) eax (context_at s x.0).subject (handler_of s x.0))
