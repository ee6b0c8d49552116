-- DriverEntry is entered only by itself: nothing that a run keeps as due enters it.
use Rattle.std.proofs.Common.{rules, ◌≡◌, inl, inr, ℕ, suc, Bool, true, false, List, [], ◌∷◌, map, drop, length, refl, sym, ap, ◌∙◌, Option, Some, None}
use Rattle.std.specs.Prelude.{⊤, count_by, slice_get}
use Rattle.std.specs.Option.{MatchOption, option_map, option_or, option_and_then}
use Rattle.nd_base.specs.declared.numbers.AdapterNo.{AdapterNo}
use Rattle.nd_base.specs.declared.numbers.CtxNo.{CtxNo}
use Rattle.log_fields.specs.declared.write.Write.{Write}
use Rattle.log_fields.specs.declared.field_values.Handler.{Handler}
use Rattle.log_fields.specs.declared.field_values.Handler.TheVariants as handler
use Rattle.call_log.specs.declared.entry.Entry.{Entry}
use Rattle.call_log.specs.declared.entry.Entry.TheVariants as entries
use Rattle.guest_world.specs.declared.answer.Reply.{Reply}
use Rattle.import_answers.specs.Outcomes.{Outcome, Breaks, Replies, Picks, PicksDescriptor, Spins, Sleeps, Synchronizes}
use Rattle.import_answers.specs.World.{word}
use Rattle.import_answers.specs.Ports.{offset_of_port}
use Rattle.owner_machine.specs.State.{Owner, at}
use Rattle.owner_machine.specs.Contexts.{is_entry, is_free as is_free_row}
use Rattle.owner_machine.specs.Loans.{away_of}
use Rattle.owner_machine.specs.Must.{Due as OwnerDue, Completes, BacksFailed, Answers, Hands, BacksDue, HandsAsk, EntersReset, owner_must, serves}
use Rattle.owner_machine.specs.declared.rows.Request.{Request}
use Rattle.legal_run.specs.State.{Inputs, State, Nothing, OnLock, OnClock, OnSync, Next, Free, Takes, Verdicts, Spinning, Makes, Stops, adapter_of}
use Rattle.legal_run.specs.Calls.{Did, Broken, Waits, Made, completion, Walked, Fell, Went, onto, told, judged, indicated, array_made, answered, port_entries, served, by_outcome, did, Drawn, Breaking, Draws, outcome_of, handed_at, handed_request, words_from}
use Rattle.legal_run.specs.Must.{Due, Owes, Exactly, ReplyOf, first_of, made_next, first_stop, next_must, taken_first, must, Serves}
use Rattle.legal_run.specs.After.{after, next_after, popped, call_next, leave_next, takes, spent, enter_next, reaches, cost_of, number_in}
use Rattle.legal_run.specs.Run.{Run, Meets, now, freely}
use Rattle.run_facts.specs.Facts.{IsOfRun}
use Rattle.run_facts.proofs.Runs.{case_of, of_run, true_both}

abbrev pub is_start : Entry → Bool
is_start (entries.Enter None _ _ _ _) = true
is_start _ = false

abbrev AreOther : List Entry → Type 0
AreOther [] = ⊤
AreOther (e ∷ es) = (is_start e ≡ false) × AreOther es

-- what is due, but for verdicts
abbrev IsOther : Next → Type 0
IsOther (Takes e) = is_start e ≡ false
IsOther (Makes x es lent) = AreOther es
IsOther _ = ⊤

abbrev DidOther : Did → Type 0
DidOther (Made es lent writes) = AreOther es
DidOther _ = ⊤

abbrev WalkOther : Walked → Type 0
WalkOther (Went es lent writes) = AreOther es
WalkOther _ = ⊤

-- ---- calls

completion_other : (s : State) (status : ℕ) (k : Option ℕ) → DidOther (completion s status k)
completion_other s status None = tt
completion_other s status (Some k) = search rules

onto_other : (e : Entry) (descriptor : ℕ) (status : List Write) (w : Walked) → is_start e ≡ false → WalkOther w → WalkOther (onto e descriptor status w)
onto_other e descriptor status (Fell rule) is h = tt
onto_other e descriptor status (Went es lent writes) is h = (is, h)

told_other : (s : State) (a j away packet : ℕ) (bytes : List ℕ) (home gone : Walked) → WalkOther home → WalkOther gone → WalkOther (told s a j away packet bytes home gone)
told_other s a j away packet bytes home gone one other = search (rules, onto_other)

judged_other : (s : State) (a j away packet : ℕ) (b : Bool) (frame : Option (List ℕ)) (home gone : Walked) → WalkOther home → WalkOther gone → WalkOther (judged s a j away packet b frame home gone)
judged_other s a j away packet false frame home gone one other = tt
judged_other s a j away packet true None home gone one other = tt
judged_other s a j away packet true (Some bytes) home gone one other = told_other s a j away packet bytes home gone one other

walked : (s : State) (a j away : ℕ) (before packets : List ℕ) → WalkOther (indicated s a j away before packets)
unfolding indicated
walked s a j away before [] = tt
walked s a j away before (packet ∷ packets) =
    judged_other s a j away packet _ _ _ _ (walked s a (suc j) away (packet ∷ before) packets) (walked s a (suc j) (suc away) (packet ∷ before) packets)

array_other : (n : ℕ) (w : Walked) → WalkOther w → DidOther (array_made n w)
array_other n (Fell rule) h = tt
array_other n (Went es lent writes) h = search rules

answer_other : (s : State) (a : ℕ) (set : Bool) (status : ℕ) (r : Option ℕ) (row : Option Request) → DidOther (answered s a set status r row)
answer_other s a set status (Some r) (Some row) = search rules
answer_other s a set status None row = tt
answer_other s a set status (Some r) None = tt

wired : (a : ℕ) (frames : List (List ℕ)) → AreOther (map (λ frame. entries.WireOut (record { 0 = a }) frame) frames)
wired a [] = tt
wired a (frame ∷ frames) = (refl, wired a frames)

port_other : (s : State) (a import : ℕ) (words : List ℕ) (reply : Reply) (port : Option ℕ) → AreOther (port_entries s a import words reply port)
port_other s a import words reply None = tt
port_other s a import words reply (Some port) = (refl, wired a reply.sent)

served_other : (s : State) (a : Option AdapterNo) (import : ℕ) (words : List ℕ) (reply : Reply) → DidOther (served s a import words reply)
served_other s None import words reply = tt
served_other s (Some a) import words reply =
    let completes = completion_other s (word words 3) (handed_at s a.0 (word words 2)) in
    let lends = array_other (word words 3) (indicated s a.0 (length s.owner.loans) (count_by (away_of a.0) s.owner.loans) [] (words_from s (word words 2) (word words 3))) (walked s a.0 _ _ [] _) in
    let queried = answer_other s a.0 false (word words 2) (handed_request s a.0) (option_and_then (λ r. slice_get s.owner.requests r) (handed_request s a.0)) in
    let sets = answer_other s a.0 true (word words 2) (handed_request s a.0) (option_and_then (λ r. slice_get s.owner.requests r) (handed_request s a.0)) in
    let moves = port_other s a.0 import words reply (offset_of_port s.world (Some a) (word words 1)) in
    search rules

did_other : (s : State) (a : Option AdapterNo) (import : ℕ) (words : List ℕ) (o : Outcome) → DidOther (by_outcome s a import words o)
did_other s a import words (Replies reply world) = served_other s a import words reply
did_other s a import words (Breaks rule) = tt
did_other s a import words (Picks n reply world) = tt
did_other s a import words (PicksDescriptor kind handle reply world) = tt
did_other s a import words (Spins holder world) = tt
did_other s a import words (Sleeps moment) = tt
did_other s a import words Synchronizes = tt

-- ---- the table

call_other : (c : Inputs) (s : State) (x : CtxNo) (words : List ℕ) (d : Did) → DidOther d → IsOther (call_next c s x words d)
call_other c s x words (Broken rule) h = tt
call_other c s x words (Waits (OnLock lock)) h = tt
call_other c s x words (Waits (OnClock wake)) h = tt
call_other c s x words (Waits (OnSync stage)) h = tt
call_other c s x words (Waits Nothing) h = tt
call_other c s x words (Made es lent writes) h = h

leave_other : (c : Inputs) (s : State) (x : CtxNo) (d : Drawn) → IsOther (leave_next c s x d)
leave_other c s x (Breaking rule) = tt
leave_other c s x (Draws es) = tt

takes_other : (j : Option ℕ) → IsOther (takes j)
takes_other None = tt
takes_other (Some j) = refl

enter_other : (s : State) (a : ℕ) (h : Handler) (words : List ℕ) → IsOther (enter_next s a h words)
enter_other s a handler.ReturnPacket words = takes_other _
enter_other s a _ words = tt

spent_other : (c : Inputs) (s : State) (x : CtxNo) (b : Bool) → IsOther (spent c s x b)
spent_other c s x true = tt
spent_other c s x false = tt

rest_other : (es : List Entry) → AreOther es → AreOther (drop 1 es)
rest_other [] h = tt
rest_other (e ∷ es) h = h.1

popped_other : (n : Next) → IsOther n → IsOther (popped n)
popped_other (Verdicts es) h = tt
popped_other (Makes x es lent) h = rest_other es h
popped_other (Stops why ats) h = tt
popped_other Free h = tt
popped_other (Takes e) h = tt
popped_other (Spinning x lock) h = tt

next_other : (c : Inputs) (s : State) (e : Entry) → IsOther s.next → IsOther (next_after c s e)
next_other c s (entries.Enter a x h words writes) is = enter_other s _ h words
next_other c s (entries.Leave x eax) is = leave_other c s x _
next_other c s (entries.Fault x kind address) is = tt
next_other c s (entries.Turn x n) is = spent_other c s x (reaches c s x n)
next_other c s (entries.Call x import words) is = call_other c s x words (did s x import words) (did_other s (adapter_of s x.0) import words (outcome_of s x import words))
next_other c s (entries.Reply x eax writes) is = spent_other c s x (reaches c s x (cost_of s x (record { eax = eax; writes = writes })))
next_other c s (entries.Stop a why) is = tt
next_other c s _ is = popped_other s.next is

others : (c : Inputs) (s : State) → IsOfRun c s → IsOther s.next
others c s is = of_run c (λ t. IsOther t.next) (λ t e of h meets. next_other c t e h) tt s is

-- ---- verdicts

-- what is drawn from a leave stands, one entry after the other (a law of crates/run_duties)
abbrev pub VerdictsStand : Type 0
VerdictsStand = (c : Inputs) (log : List Entry) (e : Entry) (es : List Entry) → Run c log → (now c log).next ≡ Verdicts (e ∷ es) → Meets c (now c log) e × ((after c (now c log) e).next ≡ Verdicts es)

entry_of : (h : Handler) → is_entry h ≡ true → h ≡ handler.DriverEntry
entry_of handler.DriverEntry is = refl
entry_of _ is = absurd (cc)

pub start_handler : (c : Inputs) (s : State) (x : CtxNo) (h : Handler) (words : List ℕ) (writes : List Write) → Meets c s (entries.Enter None x h words writes) → h ≡ handler.DriverEntry
start_handler c s x h words writes meets =
    entry_of h (true_both (at is_free_row s.owner.contexts x.0) (is_entry h) (case_of s.owner (entries.Enter None x h words writes) meets.owner)).1

no_verdict : VerdictsStand → (c : Inputs) (s : State) (x : CtxNo) (h : Handler) (words : List ℕ) (writes : List Write) (es : List Entry) → IsOfRun c s → s.next ≡ Verdicts (entries.Enter None x h words writes ∷ es) → ⊥
no_verdict stand c s x h words writes es is due =
    let e = entries.Enter None x h words writes in
    let both = stand c is.log e es is.reaches.run (ap (λ t. t.next) is.reaches.state ∙ due) in
    let its = start_handler c (now c is.log) x h words writes both.0 in
    not_free (now c is.log) (number_in c None) h words es its both.1
  where
    not_free : (s : State) (n : ℕ) (h : Handler) (words : List ℕ) (es : List Entry) → h ≡ handler.DriverEntry → enter_next s n h words ≡ Verdicts es → ⊥
    not_free s n handler.DriverEntry words es its h = absurd (cc)
    not_free s n _ words es its h = absurd (cc)

-- ---- what is due is no start

abbrev DueOther : Option Due → Type 0
DueOther (Some (Exactly e)) = is_start e ≡ false
DueOther _ = ⊤

or_other : (d f : Option Due) → DueOther d → DueOther f → DueOther (option_or d f)
or_other None f one other = other
or_other (Some (Exactly e)) f one other = one
or_other (Some (Owes d)) f one other = tt
or_other (Some (ReplyOf x)) f one other = tt

owes_other : (d : Option OwnerDue) → DueOther (option_map Owes d)
owes_other None = tt
owes_other (Some d) = tt

stop_other : (ats : List ℕ) (stop : ℕ → Entry) → ((a : ℕ) → is_start (stop a) ≡ false) → DueOther (first_stop ats stop)
stop_other [] stop h = tt
stop_other (a ∷ ats) stop h = h a

made_other : (x : CtxNo) (es : List Entry) → AreOther es → DueOther (made_next x es)
made_other x [] h = tt
made_other x (e ∷ es) h = h.0

first_other : (es : List Entry) → ((x : CtxNo) (h : Handler) (words : List ℕ) (writes : List Write) (rest : List Entry) → es ≡ entries.Enter None x h words writes ∷ rest → ⊥) → DueOther (first_of es)
first_other [] none = tt
first_other (entries.Enter None x h words writes ∷ es) none = absurd (none x h words writes es refl)
first_other (e ∷ es) none = refl

next_due_other : VerdictsStand → (c : Inputs) (s : State) → IsOfRun c s → (n : Next) → s.next ≡ n → IsOther n → DueOther (next_must n)
next_due_other stand c s is Free its h = tt
next_due_other stand c s is (Takes e) its h = h
next_due_other stand c s is (Verdicts es) its h =
    first_other es (λ x k words writes rest all. no_verdict stand c s x k words writes rest is (its ∙ ap Verdicts all))
next_due_other stand c s is (Spinning x lock) its h = refl
next_due_other stand c s is (Makes x es lent) its h = made_other x es h
next_due_other stand c s is (Stops why ats) its h = stop_other ats _ (λ a. refl)

taken_other : (n : Next) → IsOther n → DueOther (taken_first n)
taken_other (Takes e) h = h
taken_other Free h = tt
taken_other (Verdicts es) h = tt
taken_other (Spinning x lock) h = tt
taken_other (Makes x es lent) h = tt
taken_other (Stops why ats) h = tt

must_other : VerdictsStand → (c : Inputs) (s : State) → IsOfRun c s → DueOther (must s)
unfolding must
must_other stand c s is =
    or_other _ _ (taken_other s.next (others c s is)) (or_other _ _ (owes_other (owner_must s.owner)) (next_due_other stand c s is s.next refl (others c s is)))

owner_other : (o : Owner) (d : OwnerDue) (x : CtxNo) (h : Handler) (words : List ℕ) (writes : List Write) → serves o d (entries.Enter None x h words writes) ≡ true → ⊥
owner_other o (Completes fresh k status) x h words writes is = absurd (cc)
owner_other o (BacksFailed j) x h words writes is = absurd (cc)
owner_other o (Answers r status) x h words writes is = absurd (cc)
owner_other o (Hands k) x h words writes is = absurd (cc)
owner_other o (BacksDue a) x h words writes is = absurd (cc)
owner_other o (HandsAsk r) x h words writes is = absurd (cc)
owner_other o (EntersReset a) x h words writes is = absurd (cc)

by_due : (c : Inputs) (s : State) (x : CtxNo) (h : Handler) (words : List ℕ) (writes : List Write) (d : Option Due) → DueOther d
    → MatchOption d (freely c s (entries.Enter None x h words writes) ≡ true) (λ due. Serves c s due (entries.Enter None x h words writes)) → freely c s (entries.Enter None x h words writes) ≡ true
by_due c s x h words writes None other turn = turn
by_due c s x h words writes (Some (Owes d)) other turn = absurd (owner_other s.owner d x h words writes (true_both (serves s.owner d (entries.Enter None x h words writes)) _ turn).0)
by_due c s x h words writes (Some (Exactly e)) other turn = let yes : is_start e ≡ true = ap is_start (sym turn) in absurd (cc)
by_due c s x h words writes (Some (ReplyOf y)) other turn = absurd (cc)

-- it stands by itself
pub starts : VerdictsStand → (c : Inputs) (s : State) (x : CtxNo) (h : Handler) (words : List ℕ) (writes : List Write) → IsOfRun c s → Meets c s (entries.Enter None x h words writes)
    → freely c s (entries.Enter None x h words writes) ≡ true
starts stand c s x h words writes is meets = elim meets.turn [ inl turn ↦ by_due c s x h words writes (must s) (must_other stand c s is) turn | inr breaks ↦ absurd (cc) ]
