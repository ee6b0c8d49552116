-- What a run keeps as due next, beside spins and stops, are entries of the kinds that calls and leaves make.
use Rattle.std.proofs.Common.{rules, ◌≡◌, ℕ, suc, Bool, true, false, List, [], ◌∷◌, map, drop, length, refl, Option, Some, None}
use Rattle.std.specs.Prelude.{⊤, count_by, slice_get}
use Rattle.std.specs.Option.{option_and_then}
use Rattle.nd_base.specs.declared.numbers.AdapterNo.{AdapterNo}
use Rattle.nd_base.specs.declared.numbers.CtxNo.{CtxNo}
use Rattle.log_fields.specs.declared.write.Write.{Write}
use Rattle.log_fields.specs.declared.field_values.Handler.{Handler}
use Rattle.log_fields.specs.declared.field_values.Handler.TheVariants as handler
use Rattle.call_log.specs.declared.entry.Entry.{Entry}
use Rattle.call_log.specs.declared.entry.Entry.TheVariants as entries
use Rattle.guest_world.specs.declared.answer.Reply.{Reply}
use Rattle.import_answers.specs.Outcomes.{Outcome, Breaks, Replies, Picks, PicksDescriptor, Spins, Sleeps, Synchronizes}
use Rattle.import_answers.specs.World.{word}
use Rattle.import_answers.specs.Ports.{offset_of_port}
use Rattle.owner_machine.specs.Loans.{away_of}
use Rattle.owner_machine.specs.declared.rows.Request.{Request}
use Rattle.legal_run.specs.State.{Inputs, State, Nothing, OnLock, OnClock, OnSync, Next, Free, Takes, Verdicts, Spinning, Makes, Stops, adapter_of, context_at, handler_of}
use Rattle.legal_run.specs.Calls.{Did, Broken, Waits, Made, completion, Walked, Fell, Went, onto, told, judged, indicated, array_made, answered, port_entries, served, by_outcome, did, Drawn, Breaking, Draws, asks, draws_first, given_back, verdicts, request_verdict, drawn_from, drawn, leaves_even, leaves, outcome_of, handed_at, handed_request, words_from, slot_status}
use Rattle.legal_run.specs.After.{next_after, popped, call_next, leave_next, takes, spent, enter_next, reaches, cost_of}
use Rattle.legal_run.specs.Laws.{is_piecemeal}

-- the kinds that a call makes, or that are drawn from a leave; and a loan that goes home
abbrev pub is_made : Entry → Bool
is_made (entries.Complete _ _) = true
is_made (entries.Late _) = true
is_made (entries.Requeue _) = true
is_made (entries.Indicate _ _ _ _ _) = true
is_made (entries.Back _ _) = true
is_made (entries.Answer _ _ _) = true
is_made (entries.ResetEnd _ _) = true
is_made (entries.Port _ _ _ _ _) = true
is_made (entries.WireOut _ _) = true
is_made _ = false

pub made_piece : (e : Entry) → is_made e ≡ true → is_piecemeal e ≡ true
made_piece (entries.Complete _ _) h = refl
made_piece (entries.Late _) h = refl
made_piece (entries.Requeue _) h = refl
made_piece (entries.Indicate _ _ _ _ _) h = refl
made_piece (entries.Back _ _) h = refl
made_piece (entries.Answer _ _ _) h = refl
made_piece (entries.ResetEnd _ _) h = refl
made_piece (entries.Port _ _ _ _ _) h = refl
made_piece (entries.WireOut _ _) h = refl
made_piece _ h = absurd (cc)

abbrev pub AreForced : List Entry → Type 0
AreForced [] = ⊤
AreForced (e ∷ es) = (is_made e ≡ true) × AreForced es

abbrev pub IsForced : Next → Type 0
IsForced (Takes e) = is_made e ≡ true
IsForced (Verdicts es) = AreForced es
IsForced (Makes x es lent) = AreForced es
IsForced _ = ⊤

abbrev DidForced : Did → Type 0
DidForced (Made es lent writes) = AreForced es
DidForced _ = ⊤

abbrev WalkForced : Walked → Type 0
WalkForced (Went es lent writes) = AreForced es
WalkForced _ = ⊤

abbrev DrawnForced : Drawn → Type 0
DrawnForced (Draws es) = AreForced es
DrawnForced _ = ⊤

-- ---- calls

completion_forced : (s : State) (status : ℕ) (k : Option ℕ) → DidForced (completion s status k)
completion_forced s status None = tt
completion_forced s status (Some k) = search rules

onto_forced : (e : Entry) (descriptor : ℕ) (status : List Write) (w : Walked) → is_made e ≡ true → WalkForced w → WalkForced (onto e descriptor status w)
onto_forced e descriptor status (Fell rule) is h = tt
onto_forced e descriptor status (Went es lent writes) is h = (is, h)

walked_told : (s : State) (a j away packet : ℕ) (bytes : List ℕ) (home gone : Walked) → WalkForced home → WalkForced gone → WalkForced (told s a j away packet bytes home gone)
walked_told s a j away packet bytes home gone one other =
    search (rules, onto_forced)

walked_judged : (s : State) (a j away packet : ℕ) (b : Bool) (frame : Option (List ℕ)) (home gone : Walked) → WalkForced home → WalkForced gone → WalkForced (judged s a j away packet b frame home gone)
walked_judged s a j away packet false frame home gone one other = tt
walked_judged s a j away packet true None home gone one other = tt
walked_judged s a j away packet true (Some bytes) home gone one other = walked_told s a j away packet bytes home gone one other

walked : (s : State) (a j away : ℕ) (before packets : List ℕ) → WalkForced (indicated s a j away before packets)
unfolding indicated
walked s a j away before [] = tt
walked s a j away before (packet ∷ packets) =
    walked_judged s a j away packet _ _ _ _ (walked s a (suc j) away (packet ∷ before) packets) (walked s a (suc j) (suc away) (packet ∷ before) packets)

array_forced : (n : ℕ) (w : Walked) → WalkForced w → DidForced (array_made n w)
array_forced n (Fell rule) h = tt
array_forced n (Went es lent writes) h = search rules

answer_forced : (s : State) (a : ℕ) (set : Bool) (status : ℕ) (r : Option ℕ) (row : Option Request) → DidForced (answered s a set status r row)
answer_forced s a set status (Some r) (Some row) = search rules
answer_forced s a set status None row = tt
answer_forced s a set status (Some r) None = tt

wired : (a : ℕ) (frames : List (List ℕ)) → AreForced (map (λ frame. entries.WireOut (record { 0 = a }) frame) frames)
wired a [] = tt
wired a (frame ∷ frames) = (refl, wired a frames)

port_forced : (s : State) (a import : ℕ) (words : List ℕ) (reply : Reply) (port : Option ℕ) → AreForced (port_entries s a import words reply port)
port_forced s a import words reply None = tt
port_forced s a import words reply (Some port) = (refl, wired a reply.sent)

served_forced : (s : State) (a : Option AdapterNo) (import : ℕ) (words : List ℕ) (reply : Reply) → DidForced (served s a import words reply)
served_forced s None import words reply = tt
served_forced s (Some a) import words reply =
    let completes = completion_forced s (word words 3) (handed_at s a.0 (word words 2)) in
    let lends = array_forced (word words 3) (indicated s a.0 (length s.owner.loans) (count_by (away_of a.0) s.owner.loans) [] (words_from s (word words 2) (word words 3))) (walked s a.0 _ _ [] _) in
    let queried = answer_forced s a.0 false (word words 2) (handed_request s a.0) (option_and_then (λ r. slice_get s.owner.requests r) (handed_request s a.0)) in
    let sets = answer_forced s a.0 true (word words 2) (handed_request s a.0) (option_and_then (λ r. slice_get s.owner.requests r) (handed_request s a.0)) in
    let moves = port_forced s a.0 import words reply (offset_of_port s.world (Some a) (word words 1)) in
    search rules

did_forced : (s : State) (a : Option AdapterNo) (import : ℕ) (words : List ℕ) (o : Outcome) → DidForced (by_outcome s a import words o)
did_forced s a import words (Replies reply world) = served_forced s a import words reply
did_forced s a import words (Breaks rule) = tt
did_forced s a import words (Picks n reply world) = tt
did_forced s a import words (PicksDescriptor kind handle reply world) = tt
did_forced s a import words (Spins holder world) = tt
did_forced s a import words (Sleeps moment) = tt
did_forced s a import words Synchronizes = tt

-- ---- leaves

asked : (b : Bool) (rule : ℕ) (d : Drawn) → DrawnForced d → DrawnForced (asks b rule d)
asked true rule d h = h
asked false rule d h = tt

first_forced : (e : Entry) (d : Drawn) → is_made e ≡ true → DrawnForced d → DrawnForced (draws_first e d)
first_forced e (Breaking rule) is h = tt
first_forced e (Draws es) is h = (is, h)

back_forced : (s : State) (ks : List ℕ) → AreForced (given_back s ks)
unfolding given_back
back_forced s [] = tt
back_forced s (k ∷ ks) = let rest = back_forced s ks in search rules

verdicts_forced : (s : State) (status_of : ℕ → ℕ) (serial : Bool) (ks : List ℕ) → DrawnForced (verdicts s status_of serial ks)
unfolding verdicts
verdicts_forced s status_of serial [] = tt
verdicts_forced s status_of serial (k ∷ ks) =
    let rest = verdicts_forced s status_of serial ks in let back = back_forced s ks in search (rules, first_forced)

request_forced : (s : State) (a status : ℕ) (r : Option ℕ) (row : Option Request) → DrawnForced (request_verdict s a status r row)
request_forced s a status (Some r) (Some row) = search rules
request_forced s a status None row = tt
request_forced s a status (Some r) None = tt

from_forced : (s : State) (a eax : ℕ) (subject : List ℕ) (h : Handler) → DrawnForced (drawn_from s a eax subject h)
from_forced s a eax subject handler.Send = verdicts_forced s (λ k. eax) _ subject
from_forced s a eax subject handler.SendPackets = let verdict = verdicts_forced s (slot_status s) true subject in search rules
from_forced s a eax subject handler.Query = request_forced s a eax _ _
from_forced s a eax subject handler.Set = request_forced s a eax _ _
from_forced s a eax subject handler.Reset = search rules
from_forced s a eax subject handler.Initialize = search rules
from_forced s a eax subject _ = tt

drawn_forced : (c : Inputs) (s : State) (a : Option AdapterNo) (eax : ℕ) (subject : List ℕ) (h : Handler) → DrawnForced (drawn c s a eax subject h)
drawn_forced c s None eax subject h = search rules
drawn_forced c s (Some a) eax subject h = from_forced s a.0 eax subject h

-- ---- the table

call_forced : (c : Inputs) (s : State) (x : CtxNo) (words : List ℕ) (d : Did) → DidForced d → IsForced (call_next c s x words d)
call_forced c s x words (Broken rule) h = tt
call_forced c s x words (Waits (OnLock lock)) h = tt
call_forced c s x words (Waits (OnClock wake)) h = tt
call_forced c s x words (Waits (OnSync stage)) h = tt
call_forced c s x words (Waits Nothing) h = tt
call_forced c s x words (Made es lent writes) h = h

leave_forced : (c : Inputs) (s : State) (x : CtxNo) (d : Drawn) → DrawnForced d → IsForced (leave_next c s x d)
leave_forced c s x (Breaking rule) h = tt
leave_forced c s x (Draws es) h = h

takes_forced : (j : Option ℕ) → IsForced (takes j)
takes_forced None = tt
takes_forced (Some j) = refl

enter_forced : (s : State) (a : ℕ) (h : Handler) (words : List ℕ) → IsForced (enter_next s a h words)
enter_forced s a handler.ReturnPacket words = takes_forced _
enter_forced s a _ words = tt

spent_forced : (c : Inputs) (s : State) (x : CtxNo) (b : Bool) → IsForced (spent c s x b)
spent_forced c s x true = tt
spent_forced c s x false = tt

rest_forced : (es : List Entry) → AreForced es → AreForced (drop 1 es)
rest_forced [] h = tt
rest_forced (e ∷ es) h = h.1

popped_forced : (n : Next) → IsForced n → IsForced (popped n)
popped_forced (Verdicts es) h = rest_forced es h
popped_forced (Makes x es lent) h = rest_forced es h
popped_forced (Stops cause as') h = tt
popped_forced Free h = tt
popped_forced (Takes e) h = tt
popped_forced (Spinning x lock) h = tt

pub next_forced : (c : Inputs) (s : State) (e : Entry) → IsForced s.next → IsForced (next_after c s e)
next_forced c s (entries.Enter a x h words writes) is = enter_forced s _ h words
next_forced c s (entries.Leave x eax) is = leave_forced c s x (leaves c s x eax) (asked (leaves_even s x) 7 (drawn c s (adapter_of s x.0) eax (context_at s x.0).subject (handler_of s x.0)) (drawn_forced c s _ eax _ _))
next_forced c s (entries.Fault x kind address) is = tt
next_forced c s (entries.Turn x n) is = spent_forced c s x (reaches c s x n)
next_forced c s (entries.Call x import words) is = call_forced c s x words (did s x import words) (did_forced s (adapter_of s x.0) import words (outcome_of s x import words))
next_forced c s (entries.Reply x eax writes) is = spent_forced c s x (reaches c s x (cost_of s x (record { eax = eax; writes = writes })))
next_forced c s (entries.Stop a cause) is = tt
next_forced c s _ is = popped_forced s.next is
