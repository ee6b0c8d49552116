-- Behind a call stand what it makes and its reply: its context is open and calls, and its import's row answers still.
use Rattle.std.proofs.Common.{rules, ◌*◌, ◌-◌, ◌≡◌, ℕ, zero, suc, ◌<◌, Bool, true, false, cond, not, ◌&&◌, ◌==◌, List, [], ◌∷◌, ◌++◌, Option, Some, None, refl, sym, ap, ◌∙◌, subst, length, slice_get, slice_index_or, inl, inr, arith}
use Rattle.std.specs.Prelude.{⊤, drop, map, position, nat_le, nat_lt}
use Rattle.std.specs.Option.{MatchOption, option_map, option_or}
use Rattle.std.proofs.lemmas.Bool.{eqb-true}
use Rattle.std.proofs.lemmas.List.{length-set, length-replicate, get_or-set_same}
use Rattle.nd_base.specs.declared.numbers.AdapterNo.{AdapterNo}
use Rattle.nd_base.specs.declared.numbers.BindingNo.{BindingNo}
use Rattle.nd_base.specs.declared.numbers.CtxNo.{CtxNo}
use Rattle.log_fields.specs.declared.write.Write.{Write}
use Rattle.log_fields.specs.declared.field_values.Handler.{Handler}
use Rattle.log_fields.specs.declared.field_values.Handler.TheVariants as handler
use Rattle.call_log.specs.declared.entry.Entry.{Entry}
use Rattle.call_log.specs.declared.entry.Entry.TheVariants as entries
use Rattle.packet_pool.specs.LiveSet.{LiveSet}
use Rattle.irql_lock.specs.LockState.{level_of}
use Rattle.import_table.specs.Table.{Row, rows as import_rows, row_of}
use Rattle.guest_world.specs.declared.answer.Caller.{Caller}
use Rattle.guest_world.specs.declared.answer.Reply.{Reply}
use Rattle.guest_world.specs.declared.world.World.{World}
use Rattle.import_answers.specs.Outcomes as outcomes
use Rattle.import_answers.specs.Outcomes.{Outcome, Breaks, Replies, Picks, PicksDescriptor, Spins, Sleeps, Synchronizes}
use Rattle.import_answers.specs.Answers.{answering, none_such, level_rule, eight, outcome}
use Rattle.import_answers.specs.Completions.{indicate_receive}
use Rattle.import_answers.specs.Statuses.{pending}
use Rattle.import_answers.specs.World.{word, is_adapter_handle}
use Rattle.owner_machine.specs.declared.rows.Context.{Context as OwnerContext}
use Rattle.owner_machine.specs.declared.rows.Context.TheVariants as kept
use Rattle.owner_machine.specs.declared.rows.Next.{Next as OwnerNext}
use Rattle.owner_machine.specs.declared.rows.Next.TheVariants as nexts
use Rattle.owner_machine.specs.declared.rows.Request.{Request}
use Rattle.owner_machine.specs.State.{Owner, at, change, request_aborted, is_resetting, phase_is}
use Rattle.owner_machine.specs.Contexts.{is_at_work, has_none, calling, freed, entry_freed, transfer_begun, wants_transfer, with_transfer, indicate_receive_packet}
use Rattle.owner_machine.specs.Handlers.{contexts_entered}
use Rattle.owner_machine.specs.Adapters.{contexts_stopped, all_stopped, stopped}
use Rattle.owner_machine.specs.Packets.{at_miniport, held_of, behind_verdict}
use Rattle.owner_machine.specs.Loans.{wanting}
use Rattle.owner_machine.specs.Requests.{behind_answer, is_set}
use Rattle.owner_machine.specs.Must.{Due as OwnerDue, Completes, owner_must, must_behind, serves}
use Rattle.owner_machine.specs.Machine.{rule_against, has_case}
use Rattle.owner_machine.specs.Machine as owner_machine
use Rattle.legal_run.specs.State.{Inputs, State, Next, Free, Takes, Verdicts, Spinning, Makes, Stops, Context, Calling, Nothing, OnLock, OnClock, OnSync, adapter, adapter_in, adapter_of, handler_in, handler_of, caller, call_at, context_at, no_context, start}
use Rattle.legal_run.specs.Calls.{Did, Broken, Waits, Made, did, by_outcome, outcome_of, makes, needs, completion, ending_of, Walked, Fell, Went, onto, told, judged, indicated, array_made, is_copied, status_written, stays_home, indicate, answer, same_kind, fits, most_loans, most_packets, reset_end, answered as ask_answered, handed_at, port_entries, served, Drawn, Breaking, Draws, leaves}
use Rattle.legal_run.specs.After.{after, next_after, popped, call_next, leave_next, enter_next, takes, spent, reaches, cost_of, number_in, framed, owner_left, is_breaking}
use Rattle.legal_run.specs.After as afters
use Rattle.legal_run.specs.Replies.{replies}
use Rattle.legal_run.specs.Must.{Due, Owes, made_next, next_must, taken_first, must, Serves}
use Rattle.legal_run.specs.Run.{now_from, now, Meets, freely, breaks_in}
use Rattle.run_duties.proofs.Rows.{true_both, case_of, next}

-- ---- rows

pub at_here : {A : Type 0} (p q : A → Bool) (f : A → A) (rows : List A) (k : ℕ) → ((row : A) → p row ≡ true → q (f row) ≡ true) → at p rows k ≡ true → at q (change f rows k) k ≡ true
at_here p q f [] k w h = absurd (cc)
at_here p q f (row ∷ rows) zero w h = w row h
at_here p q f (row ∷ rows) (suc k) w h = at_here p q f rows k w h

pub at_below : {A : Type 0} (p : A → Bool) (rows : List A) (k : ℕ) → at p rows k ≡ true → k < length rows
at_below p [] k h = absurd (cc)
at_below p (row ∷ rows) zero h = omega arith
at_below p (row ∷ rows) (suc k) h = let rest = at_below p rows k h in omega (arith, rest)

pub at_more : {A : Type 0} (p q : A → Bool) (rows : List A) (k : ℕ) → ((row : A) → p row ≡ true → q row ≡ true) → at p rows k ≡ true → at q rows k ≡ true
at_more p q [] k w h = absurd (cc)
at_more p q (row ∷ rows) zero w h = w row h
at_more p q (row ∷ rows) (suc k) w h = at_more p q rows k w h

length_changed : {A : Type 0} (f : A → A) (rows : List A) (k : ℕ) → length (change f rows k) ≡ length rows
length_changed f [] k = refl
length_changed f (row ∷ rows) zero = refl
length_changed f (row ∷ rows) (suc k) = ap suc (length_changed f rows k)

-- ---- how many contexts the owner machine has

begun_count : (a n : ℕ) (cs : List OwnerContext) → length (transfer_begun a n cs) ≡ length cs
begun_count a n [] = refl
begun_count a n (y ∷ cs) = by_test (wants_transfer a y) (begun_count a n cs)
  where
    by_test : (t : Bool) → length (transfer_begun a n cs) ≡ length cs → length (cond t (with_transfer n y ∷ cs) (y ∷ transfer_begun a n cs)) ≡ suc (length cs)
    by_test true more = refl
    by_test false more = ap suc more

opened_count : (b : Option AdapterNo) (h : Handler) (n : ℕ) (cs : List OwnerContext) → length (contexts_entered b h n cs) ≡ length cs
opened_count (Some b) handler.TransferData n cs = begun_count b.0 n cs
opened_count None handler.TransferData n cs = refl
opened_count (Some b) _ n cs = refl
opened_count None _ n cs = refl

freed_count : (a : ℕ) (cs : List OwnerContext) → length (freed a cs) ≡ length cs
freed_count a [] = refl
freed_count a (x ∷ cs) = ap suc (freed_count a cs)

entry_freed_count : (cs : List OwnerContext) → length (entry_freed cs) ≡ length cs
entry_freed_count [] = refl
entry_freed_count (kept.Open None h enter call ∷ cs) = ap suc (entry_freed_count cs)
entry_freed_count (kept.Open (Some a) h enter call ∷ cs) = ap suc (entry_freed_count cs)
entry_freed_count (kept.Free ∷ cs) = ap suc (entry_freed_count cs)

stopped_count : (cs : List OwnerContext) (a : ℕ) (all : Bool) → length (contexts_stopped cs a all) ≡ length cs
stopped_count cs a true = entry_freed_count (freed a cs) ∙ freed_count a cs
stopped_count cs a false = freed_count a cs

owner_count : (o : Owner) (e : Entry) → length (owner_machine.after o e).contexts ≡ length o.contexts
owner_count o (entries.Enter b x h words writes) = length-set (contexts_entered b h o.enters o.contexts) x.0 _ ∙ opened_count b h o.enters o.contexts
owner_count o (entries.Leave x eax) = length-set o.contexts x.0 _
owner_count o (entries.Call x import words) = length_changed _ o.contexts x.0
owner_count o (entries.Reply x eax writes) = length_changed _ o.contexts x.0
owner_count o (entries.Stop b why) = stopped_count o.contexts b.0 (all_stopped (change stopped o.adapters b.0))
owner_count o _ = refl

left_count : (o : Owner) (x : CtxNo) (eax : ℕ) (breaks : Bool) → length (owner_left o (entries.Leave x eax) breaks).contexts ≡ length o.contexts
left_count o x eax true = refl
left_count o x eax false = owner_count o (entries.Leave x eax)

run_count : (c : Inputs) (s : State) (e : Entry) → length (after c s e).owner.contexts ≡ length s.owner.contexts
run_count c s (entries.Leave x eax) = left_count s.owner x eax (is_breaking (leaves c s x eax))
run_count c s (entries.Reply x eax writes) = owner_count s.owner (entries.Reply x eax writes)
run_count c s e = owner_count s.owner e

-- ---- what comes of a call at once

abbrev pub is_now : Outcome → Bool
is_now (Replies reply world) = true
is_now (Picks n reply world) = true
is_now (PicksDescriptor kind handle reply world) = true
is_now _ = false

-- what a call of an import makes: an `indicate` stands behind that of NdisMIndicateReceivePacket alone
abbrev pub is_of : ℕ → Entry → Bool
is_of import (entries.Indicate _ _ _ _ _) = import == indicate_receive_packet
is_of import (entries.Complete _ _) = true
is_of import (entries.Late _) = true
is_of import (entries.Answer _ _ _) = true
is_of import (entries.ResetEnd _ _) = true
is_of import (entries.Port _ _ _ _ _) = true
is_of import (entries.WireOut _ _) = true
is_of import _ = false

abbrev pub AreOf : ℕ → List Entry → Type 0
AreOf import [] = ⊤
AreOf import (e ∷ es) = (is_of import e ≡ true) × AreOf import es

abbrev pub DidOf : ℕ → Did → Type 0
DidOf import (Made es lent writes) = AreOf import es
DidOf import _ = ⊤

abbrev WalkOf : ℕ → Walked → Type 0
WalkOf import (Went es lent writes) = AreOf import es
WalkOf import _ = ⊤

needs_of : (import : ℕ) (b : Bool) (rule : ℕ) (d : Did) → DidOf import d → DidOf import (needs b rule d)
needs_of import true rule d h = h
needs_of import false rule d h = tt

either_of : (import : ℕ) (b : Bool) (x y : Did) → (b ≡ true → DidOf import x) → DidOf import y → DidOf import (cond b x y)
either_of import true x y one other = one refl
either_of import false x y one other = other

ending_is : (import : ℕ) (s : State) (k status : ℕ) → is_of import (ending_of s k status) ≡ true
ending_is import s k status = by_test (at_miniport s.owner k)
  where
    by_test : (b : Bool) → is_of import (cond b (entries.Complete (record { 0 = k }) (record { 0 = status })) (entries.Late (record { 0 = k }))) ≡ true
    by_test true = refl
    by_test false = refl

completion_of : (import : ℕ) (s : State) (status : ℕ) (k : Option ℕ) → DidOf import (completion s status k)
completion_of import s status None = tt
completion_of import s status (Some k) =
    let made : DidOf import (makes (ending_of s k status ∷ [])) = (ending_is import s k status, tt) in
    needs_of import (not (status == pending)) 10 (makes (ending_of s k status ∷ [])) made

onto_of : (import : ℕ) (e : Entry) (descriptor : ℕ) (status : List Write) (w : Walked) → is_of import e ≡ true → WalkOf import w → WalkOf import (onto e descriptor status w)
onto_of import e descriptor status (Fell rule) is h = tt
onto_of import e descriptor status (Went es lent writes) is h = (is, h)

either_walk : (import : ℕ) (b : Bool) (x y : Walked) → WalkOf import x → WalkOf import y → WalkOf import (cond b x y)
either_walk import true x y one other = one
either_walk import false x y one other = other

walked_told : (import : ℕ) (s : State) (a j away packet : ℕ) (bytes : List ℕ) (home gone : Walked) → (import == indicate_receive_packet) ≡ true → WalkOf import home → WalkOf import gone
    → WalkOf import (told s a j away packet bytes home gone)
walked_told import s a j away packet bytes home gone is one other =
    let e : Entry = indicate s a j bytes (is_copied s packet) in
    let status : List Write = status_written s a packet (wanting s.owner a bytes) in
    let goes = either_walk import (nat_lt away most_loans) (onto e packet status gone) (Fell 12) (onto_of import e packet status gone is other) tt in
    either_walk import (stays_home s a (wanting s.owner a bytes) (is_copied s packet)) (onto e packet status home)
    (cond (nat_lt away most_loans) (onto e packet status gone) (Fell 12)) (onto_of import e packet status home is one) goes

walked_judged : (import : ℕ) (s : State) (a j away packet : ℕ) (b : Bool) (frame : Option (List ℕ)) (home gone : Walked) → (import == indicate_receive_packet) ≡ true
    → WalkOf import home → WalkOf import gone → WalkOf import (judged s a j away packet b frame home gone)
walked_judged import s a j away packet false frame home gone is one other = tt
walked_judged import s a j away packet true None home gone is one other = tt
walked_judged import s a j away packet true (Some bytes) home gone is one other = walked_told import s a j away packet bytes home gone is one other

walked : (import : ℕ) (s : State) (a j away : ℕ) (before packets : List ℕ) → (import == indicate_receive_packet) ≡ true → WalkOf import (indicated s a j away before packets)
unfolding indicated
walked import s a j away before [] is = tt
walked import s a j away before (packet ∷ packets) is =
    walked_judged import s a j away packet _ _ _ _ is (walked import s a (suc j) away (packet ∷ before) packets is) (walked import s a (suc j) (suc away) (packet ∷ before) packets is)

array_of : (import n : ℕ) (w : Walked) → WalkOf import w → DidOf import (array_made n w)
array_of import n (Fell rule) h = tt
array_of import n (Went es lent writes) h = needs_of import (nat_le n most_packets) 12 (Made es lent writes) h

answer_of : (import : ℕ) (s : State) (a : ℕ) (set : Bool) (status : ℕ) (r : Option ℕ) (row : Option Request) → DidOf import (ask_answered s a set status r row)
answer_of import s a set status (Some r) (Some row) =
    let e : Entry = answer s a status r row.question in
    let made : DidOf import (makes (e ∷ [])) = (refl, tt) in
    let fit : Bool = not (status == pending) && fits s a status row.question in
    needs_of import (same_kind set (is_set row.question)) 3 (needs fit 10 (makes (e ∷ []))) (needs_of import fit 10 (makes (e ∷ [])) made)
answer_of import s a set status None row = tt
answer_of import s a set status (Some r) None = tt

reset_of : (import : ℕ) (s : State) (a status : ℕ) → DidOf import (reset_end s a status)
reset_of import s a status =
    let e : Entry = entries.ResetEnd (adapter a) (record { 0 = status }) in
    let made : DidOf import (makes (e ∷ [])) = (refl, tt) in
    needs_of import (phase_is is_resetting s.owner a) 4 (needs (not (status == pending)) 10 (makes (e ∷ []))) (needs_of import (not (status == pending)) 10 (makes (e ∷ [])) made)

wired : (import a : ℕ) (frames : List (List ℕ)) → AreOf import (map (λ frame. entries.WireOut (record { 0 = a }) frame) frames)
wired import a [] = tt
wired import a (frame ∷ frames) = (refl, wired import a frames)

port_of : (s : State) (a import : ℕ) (words : List ℕ) (reply : Reply) (port : Option ℕ) → AreOf import (port_entries s a import words reply port)
port_of s a import words reply None = tt
port_of s a import words reply (Some port) = (refl, wired import a reply.sent)

served_of : (s : State) (a : Option AdapterNo) (import : ℕ) (words : List ℕ) (reply : Reply) → DidOf import (served s a import words reply)
served_of s None import words reply = tt
served_of s (Some a) import words reply =
    search
    (rules, either_of, completion_of import s (word words 3) (handed_at s a.0 (word words 2)), array_of, walked, reset_of import s a.0 (word words 2), answer_of, port_of)

pub did_of : (s : State) (a : Option AdapterNo) (import : ℕ) (words : List ℕ) (o : Outcome) → DidOf import (by_outcome s a import words o)
did_of s a import words (Replies reply world) = served_of s a import words reply
did_of s a import words (Breaks rule) = tt
did_of s a import words (Picks n reply world) = tt
did_of s a import words (PicksDescriptor kind handle reply world) = tt
did_of s a import words (Spins holder world) = tt
did_of s a import words (Sleeps moment) = tt
did_of s a import words Synchronizes = tt

made_now : (s : State) (a : Option AdapterNo) (import : ℕ) (words : List ℕ) (o : Outcome) (es : List Entry) (lent : List ℕ) (writes : List Write)
    → by_outcome s a import words o ≡ Made es lent writes → is_now o ≡ true
made_now s a import words (Replies reply world) es lent writes h = refl
made_now s a import words (Picks n reply world) es lent writes h = refl
made_now s a import words (PicksDescriptor kind handle reply world) es lent writes h = refl
made_now s a import words (Breaks rule) es lent writes h = absurd (cc)
made_now s a import words (Spins holder world) es lent writes h = absurd (cc)
made_now s a import words (Sleeps moment) es lent writes h = absurd (cc)
made_now s a import words Synchronizes es lent writes h = absurd (cc)

-- ---- NdisMIndicateReceivePacket answers whatever is on loan

asks_same : (b : Bool) (rule : ℕ) (x y : Outcome) → is_now x ≡ is_now y → is_now (outcomes.asks b rule x) ≡ is_now (outcomes.asks b rule y)
asks_same true rule x y h = h
asks_same false rule x y h = refl

receives_still : (w : World) (pools : LiveSet) (x : Caller) (words : List ℕ) → is_now (indicate_receive (record w { pools = pools }) x words) ≡ is_now (indicate_receive w x words)
receives_still w pools x words =
    asks_same (is_adapter_handle x.adapter (word words 1) && outcomes.can_read w (word words 2) (4 * word words 3)) outcomes.arguments_rule
    (outcomes.done (record w { pools = pools })) (outcomes.done w) refl

its_number : (row_of indicate_receive_packet).import ≡ indicate_receive_packet
unfolding row_of import_rows
its_number = refl

its_row : (w : World) (pools : LiveSet) (x : Caller) (words : List ℕ)
    → is_now (slice_index_or answering (indicate_receive_packet - 1) none_such (record w { pools = pools }) x words)
    ≡ is_now (slice_index_or answering (indicate_receive_packet - 1) none_such w x words)
unfolding answering
its_row w pools x words = receives_still w pools x words

indicates_still : (w : World) (pools : LiveSet) (x : Caller) (words : List ℕ)
    → is_now (outcome (record w { pools = pools }) x (row_of indicate_receive_packet) words) ≡ is_now (outcome w x (row_of indicate_receive_packet) words)
indicates_still w pools x words =
    let row : Row = row_of indicate_receive_packet in
    let one : Outcome = slice_index_or answering (row.import - 1) none_such (record w { pools = pools }) x (eight words) in
    let other : Outcome = slice_index_or answering (row.import - 1) none_such w x (eight words) in
    let same : is_now one ≡ is_now other =
    subst (λ (n : ℕ). is_now (slice_index_or answering (n - 1) none_such (record w { pools = pools }) x (eight words)) ≡ is_now (slice_index_or answering (n - 1) none_such w x (eight words)))
    (sym its_number) (its_row w pools x (eight words)) in
    asks_same (nat_le row.low (level_of w.levels x.context) && nat_le (level_of w.levels x.context) row.high) level_rule
    (outcomes.asks (nat_le row.words (length words)) outcomes.arguments_rule one) (outcomes.asks (nat_le row.words (length words)) outcomes.arguments_rule other)
    (asks_same (nat_le row.words (length words)) outcomes.arguments_rule one other same)

-- ---- an open call that its import's row answers

-- a call for which no transfer has begun
abbrev pub is_fresh : OwnerContext → Bool
is_fresh (kept.Open _ _ _ (Some call)) = has_none call.transfer
is_fresh _ = false

-- nothing stood directly before that asks for a handler's entries
abbrev is_calm : OwnerNext → Bool
is_calm nexts.Free = true
is_calm (nexts.Aborting _) = true
is_calm _ = false

pub record HasCall (s : State) (x : CtxNo) (es : List Entry) : Type 0 where
  pub fresh : at is_fresh s.owner.contexts x.0 ≡ true
  pub call : Calling
  pub called : call_at s x.0 ≡ Some call
  pub waits : call.wait ≡ Nothing
  pub answers : is_now (outcome_of s x call.import call.words) ≡ true
  pub made : AreOf call.import es
  pub calm : is_calm s.owner.next ≡ true

abbrev pub NextCalls : State → Next → Type 0
NextCalls s (Spinning x lock) = at is_fresh s.owner.contexts x.0 ≡ true
NextCalls s (Makes x es lent) = HasCall s x es
NextCalls s _ = ⊤

-- ---- behind the call

calling_fresh : (import : ℕ) (words : List ℕ) (y : OwnerContext) → is_at_work y ≡ true → is_fresh (calling import words y) ≡ true
calling_fresh import words (kept.Open a h enter None) is = refl
calling_fresh import words (kept.Open a h enter (Some call)) is = absurd (cc)
calling_fresh import words kept.Free is = absurd (cc)

pub adapter_called : (import : ℕ) (words : List ℕ) (cs : List OwnerContext) (k x : ℕ) → adapter_in (slice_get (change (calling import words) cs k) x) ≡ adapter_in (slice_get cs x)
adapter_called import words [] k x = refl
adapter_called import words (kept.Open a h enter call ∷ cs) zero zero = refl
adapter_called import words (kept.Free ∷ cs) zero zero = refl
adapter_called import words (y ∷ cs) zero (suc x) = refl
adapter_called import words (y ∷ cs) (suc k) zero = refl
adapter_called import words (y ∷ cs) (suc k) (suc x) = adapter_called import words cs k x

handler_called : (import : ℕ) (words : List ℕ) (cs : List OwnerContext) (k x : ℕ) → handler_in (slice_get (change (calling import words) cs k) x) ≡ handler_in (slice_get cs x)
handler_called import words [] k x = refl
handler_called import words (kept.Open (Some a) h enter call ∷ cs) zero zero = refl
handler_called import words (kept.Open None h enter call ∷ cs) zero zero = refl
handler_called import words (kept.Free ∷ cs) zero zero = refl
handler_called import words (y ∷ cs) zero (suc x) = refl
handler_called import words (y ∷ cs) (suc k) zero = refl
handler_called import words (y ∷ cs) (suc k) (suc x) = handler_called import words cs k x

called_fresh : (s : State) (x : CtxNo) (import : ℕ) (words : List ℕ) → rule_against s.owner (entries.Call x import words) ≡ None → at is_fresh (change (calling import words) s.owner.contexts x.0) x.0 ≡ true
called_fresh s x import words none = at_here is_at_work is_fresh (calling import words) s.owner.contexts x.0 (calling_fresh import words) (case_of s.owner (entries.Call x import words) none)

called_now : (c : Inputs) (s : State) (x : CtxNo) (import : ℕ) (words : List ℕ) → x.0 < length s.contexts
    → call_at (after c s (entries.Call x import words)) x.0 ≡ Some (afters.calling import words (did s x import words))
called_now c s x import words within =
    ap (λ (y : Context). y.call) (get_or-set_same s.contexts x.0 (record (context_at s x.0) { call = Some (afters.calling import words (did s x import words)) }) no_context within)

called_outcome : (c : Inputs) (s : State) (x : CtxNo) (import : ℕ) (words : List ℕ) → outcome_of (after c s (entries.Call x import words)) x import words ≡ outcome_of s x import words
called_outcome c s x import words =
    ap (λ (a : Option AdapterNo). outcome s.world (record { context = x; adapter = a; handler = handler_of (after c s (entries.Call x import words)) x.0 }) (row_of import) words) (adapter_called import words s.owner.contexts x.0 x.0)
    ∙ ap (λ (h : Handler). outcome s.world (record { context = x; adapter = adapter_of s x.0; handler = h }) (row_of import) words) (handler_called import words s.owner.contexts x.0 x.0)

call_calls : (c : Inputs) (s : State) (x : CtxNo) (import : ℕ) (words : List ℕ) (d : Did) → did s x import words ≡ d → x.0 < length s.contexts → rule_against s.owner (entries.Call x import words) ≡ None
    → NextCalls (after c s (entries.Call x import words)) (call_next c s x words d)
call_calls c s x import words (Broken rule) is within none = tt
call_calls c s x import words (Waits (OnLock lock)) is within none = called_fresh s x import words none
call_calls c s x import words (Waits (OnClock wake)) is within none = tt
call_calls c s x import words (Waits (OnSync stage)) is within none = tt
call_calls c s x import words (Waits Nothing) is within none = tt
call_calls c s x import words (Made es lent writes) is within none = record {
  fresh = called_fresh s x import words none;
  call = afters.calling import words (Made es lent writes);
  called = called_now c s x import words within ∙ ap (λ d. Some (afters.calling import words d)) is;
  waits = refl;
  answers = ap is_now (called_outcome c s x import words) ∙ made_now s (adapter_of s x.0) import words (outcome_of s x import words) es lent writes is;
  made = subst (DidOf import) is (did_of s (adapter_of s x.0) import words (outcome_of s x import words));
  calm = refl;
}

-- ---- behind what it makes

abbrev pub is_special : Entry → Bool
is_special (entries.Enter _ _ _ _ _) = true
is_special (entries.Leave _ _) = true
is_special (entries.Fault _ _ _) = true
is_special (entries.Turn _ _) = true
is_special (entries.Call _ _ _) = true
is_special (entries.Reply _ _ _) = true
is_special (entries.Stop _ _) = true
is_special _ = false

no_reply : (s : State) (x : CtxNo) (e : Entry) → is_special e ≡ false → replies s x e ≡ true → ⊥
no_reply s x (entries.Reply y eax writes) special h = absurd (cc)
no_reply s x _ special h = absurd (cc)

no_break : (c : Inputs) (s : State) (e : Entry) → is_special e ≡ false → breaks_in c s e ≡ true → ⊥
no_break c s (entries.Stop a why) special h = absurd (cc)
no_break c s _ special h = absurd (cc)

aborted_of : (o : Owner) (import k : ℕ) (e : Entry) → serves o (Completes false k request_aborted) e ≡ true → is_of import e ≡ true
aborted_of o import k (entries.Complete packet status) h = refl
aborted_of o import k (entries.Tag packet id) h = absurd (cc)
aborted_of o import k _ h = absurd (cc)

calm_of : (o : Owner) (import : ℕ) (n : OwnerNext) (d : OwnerDue) (e : Entry) → is_calm n ≡ true → must_behind o n ≡ Some d → serves o d e ≡ true → is_of import e ≡ true
calm_of o import nexts.Free d e calm is h = absurd (cc)
calm_of o import (nexts.Aborting a) d e calm is h = by_first (position (held_of a.0) o.packets) is
  where
    by_first : (m : Option ℕ) → option_map (λ k. Completes false k request_aborted) m ≡ Some d → is_of import e ≡ true
    by_first None is = absurd (cc)
    by_first (Some k) is = let same : Completes false k request_aborted ≡ d = cc in aborted_of o import k e (subst (λ (f : OwnerDue). serves o f e ≡ true) (sym same) h)
calm_of o import _ d e calm is h = absurd (cc)

pub must_makes : (s : State) (x : CtxNo) (es : List Entry) (lent : List ℕ) → s.next ≡ Makes x es lent → must s ≡ option_or (option_map Owes (owner_must s.owner)) (made_next x es)
unfolding must
must_makes s x es lent is = ap (λ n. option_or (taken_first n) (option_or (option_map Owes (owner_must s.owner)) (next_must n))) is

due_of : (c : Inputs) (s : State) (x : CtxNo) (es : List Entry) (import : ℕ) (e : Entry) → is_calm s.owner.next ≡ true → AreOf import es → is_special e ≡ false
    → (m : Option OwnerDue) → owner_must s.owner ≡ m → MatchOption (option_or (option_map Owes m) (made_next x es)) (freely c s e ≡ true) (λ d. Serves c s d e) → is_of import e ≡ true
due_of c s x [] import e calm made special None is h = absurd (no_reply s x e special h)
due_of c s x (f ∷ es) import e calm made special None is h = subst (λ (g : Entry). is_of import g ≡ true) (sym h) made.0
due_of c s x es import e calm made special (Some d) is h = calm_of s.owner import s.owner.next d e calm is (true_both (serves s.owner d e) _ h).0

pub stood : (c : Inputs) (s : State) (x : CtxNo) (es : List Entry) (lent : List ℕ) (e : Entry) → s.next ≡ Makes x es lent → (has : HasCall s x es) → is_special e ≡ false → Meets c s e
    → is_of has.call.import e ≡ true
stood c s x es lent e is has special meets = elim meets.turn [
  | inl h ↦
      due_of c s x es has.call.import e has.calm has.made special (owner_must s.owner) refl
      (subst (λ (d : Option Due). MatchOption d (freely c s e ≡ true) (λ due. Serves c s due e)) (must_makes s x es lent is) h)
  | inr h ↦ absurd (no_break c s e special h)
]

rest_of : (import : ℕ) (es : List Entry) → AreOf import es → AreOf import (drop 1 es)
rest_of import [] h = tt
rest_of import (e ∷ es) h = h.1

complete_calm : (b : Bool) (n : OwnerNext) (k : ℕ) → is_calm n ≡ true → is_calm (cond b (behind_verdict n k) nexts.Free) ≡ true
complete_calm true nexts.Free k h = refl
complete_calm true (nexts.Aborting a) k h = refl
complete_calm true _ k h = absurd (cc)
complete_calm false n k h = refl

answer_calm : (n : OwnerNext) → is_calm n ≡ true → is_calm (behind_answer n) ≡ true
answer_calm (nexts.Tail a) h = absurd (cc)
answer_calm _ h = refl

-- frames are told to drivers alone
framed_contexts : (s : State) (bs : List BindingNo) → (framed s bs).contexts ≡ s.contexts
unfolding framed
framed_contexts s [] = refl
framed_contexts s (b ∷ bs) = framed_contexts _ bs

framed_world : (s : State) (bs : List BindingNo) → (framed s bs).world ≡ s.world
unfolding framed
framed_world s [] = refl
framed_world s (b ∷ bs) = framed_world _ bs

indicated_answers : (x : Caller) (w : World) (pools : LiveSet) (b : Bool) (import : ℕ) (words : List ℕ) → (import == indicate_receive_packet) ≡ true
    → is_now (outcome w x (row_of import) words) ≡ true → is_now (outcome (cond b w (record w { pools = pools })) x (row_of import) words) ≡ true
indicated_answers x w pools true import words is h = h
indicated_answers x w pools false import words is h =
    let same : import ≡ indicate_receive_packet = eqb-true import indicate_receive_packet is in
    let here : is_now (outcome w x (row_of indicate_receive_packet) words) ≡ true = subst (λ (n : ℕ). is_now (outcome w x (row_of n) words) ≡ true) same h in
    subst (λ (n : ℕ). is_now (outcome (record w { pools = pools }) x (row_of n) words) ≡ true) (sym same) (indicates_still w pools x words ∙ here)

made_calls : (c : Inputs) (s : State) (x : CtxNo) (es : List Entry) (e : Entry) → (has : HasCall s x es) → is_of has.call.import e ≡ true → HasCall (after c s e) x (drop 1 es)
made_calls c s x es (entries.Complete packet status) has is =
    record {
      fresh = has.fresh;
      call = has.call;
      called = has.called;
      waits = has.waits;
      answers = has.answers;
      made = rest_of has.call.import es has.made;
      calm = complete_calm _ s.owner.next packet.0 has.calm;
    }
made_calls c s x es (entries.Late packet) has is =
    record { fresh = has.fresh; call = has.call; called = has.called; waits = has.waits; answers = has.answers; made = rest_of has.call.import es has.made; calm = refl }
made_calls c s x es (entries.Answer request status bytes) has is =
    record {
      fresh = has.fresh;
      call = has.call;
      called = has.called;
      waits = has.waits;
      answers = has.answers;
      made = rest_of has.call.import es has.made;
      calm = answer_calm s.owner.next has.calm;
    }
made_calls c s x es (entries.ResetEnd a status) has is =
    record { fresh = has.fresh; call = has.call; called = has.called; waits = has.waits; answers = has.answers; made = rest_of has.call.import es has.made; calm = refl }
made_calls c s x es (entries.Port a way width port bytes) has is =
    record { fresh = has.fresh; call = has.call; called = has.called; waits = has.waits; answers = has.answers; made = rest_of has.call.import es has.made; calm = refl }
made_calls c s x es (entries.WireOut a frame) has is =
    record { fresh = has.fresh; call = has.call; called = has.called; waits = has.waits; answers = has.answers; made = rest_of has.call.import es has.made; calm = refl }
made_calls c s x es (entries.Indicate a j bytes holders copied) has is = record {
  fresh = has.fresh;
  call = has.call;
  called = ap (λ (cs : List Context). (slice_index_or cs x.0 no_context).call) (framed_contexts s holders) ∙ has.called;
  waits = has.waits;
  answers = indicated_answers (caller s x) (framed s holders).world _ _ has.call.import has.call.words is
      (subst (λ (w : World). is_now (outcome w (caller s x) (row_of has.call.import) has.call.words) ≡ true) (sym (framed_world s holders)) has.answers);
  made = rest_of has.call.import es has.made;
  calm = refl;
}
made_calls c s x es _ has is = absurd (cc)

popped_calls : (c : Inputs) (s : State) (e : Entry) (n : Next) → s.next ≡ n → NextCalls s n → is_special e ≡ false → Meets c s e → NextCalls (after c s e) (popped n)
popped_calls c s e (Makes x es lent) is has special meets = made_calls c s x es e has (stood c s x es lent e is has special meets)
popped_calls c s e (Stops why ats) is h special meets = tt
popped_calls c s e Free is h special meets = tt
popped_calls c s e (Takes f) is h special meets = tt
popped_calls c s e (Verdicts es) is h special meets = tt
popped_calls c s e (Spinning x lock) is h special meets = tt

-- ---- over a run

leave_calls : (c : Inputs) (s t : State) (x : CtxNo) (d : Drawn) → NextCalls t (leave_next c s x d)
leave_calls c s t x (Breaking rule) = tt
leave_calls c s t x (Draws es) = tt

spent_calls : (c : Inputs) (s t : State) (x : CtxNo) (b : Bool) → NextCalls t (spent c s x b)
spent_calls c s t x true = tt
spent_calls c s t x false = tt

takes_calls : (t : State) (j : Option ℕ) → NextCalls t (takes j)
takes_calls t None = tt
takes_calls t (Some j) = tt

enter_calls : (s t : State) (a : ℕ) (h : Handler) (words : List ℕ) → NextCalls t (enter_next s a h words)
enter_calls s t a handler.ReturnPacket words = takes_calls t _
enter_calls s t a _ words = tt

next_calls : (c : Inputs) (s : State) (e : Entry) → length s.contexts ≡ 16 → length s.owner.contexts ≡ 16 → NextCalls s s.next → Meets c s e → NextCalls (after c s e) (next_after c s e)
next_calls c s (entries.Enter a x h words writes) run owners is meets = enter_calls s _ (number_in c a) h words
next_calls c s (entries.Leave x eax) run owners is meets = leave_calls c s _ x (leaves c s x eax)
next_calls c s (entries.Fault x kind address) run owners is meets = tt
next_calls c s (entries.Turn x n) run owners is meets = spent_calls c s _ x (reaches c s x n)
next_calls c s (entries.Call x import words) run owners is meets =
    let less = at_below is_at_work s.owner.contexts x.0 (case_of s.owner (entries.Call x import words) meets.owner) in
    call_calls c s x import words (did s x import words) refl (omega (arith, less, run, owners)) meets.owner
next_calls c s (entries.Reply x eax writes) run owners is meets = spent_calls c s _ x (reaches c s x (cost_of s x (record { eax = eax; writes = writes })))
next_calls c s (entries.Stop a why) run owners is meets = tt
next_calls c s e run owners is meets = popped_calls c s e s.next refl is refl meets

pub record Calls (c : Inputs) (s : State) : Type 0 where
  pub log : List Entry
  pub is : now c log ≡ s
  pub owners : length s.owner.contexts ≡ 16
  pub next : NextCalls s s.next

-- there are sixteen contexts (a law of crates/legal_run)
abbrev pub Sixteen : Type 0
Sixteen = (c : Inputs) (log : List Entry) → length (now c log).contexts ≡ 16

pub step : Sixteen → (c : Inputs) (s : State) (e : Entry) → Calls c s → Meets c s e → Calls c (after c s e)
step sixteen c s e h meets =
    let run : length s.contexts ≡ 16 = subst (λ (t : State). length t.contexts ≡ 16) h.is (sixteen c h.log) in
    record { log = h.log ++ e ∷ []; is = next c h.log e ∙ ap (λ t. after c t e) h.is; owners = run_count c s e ∙ h.owners; next = next_calls c s e run h.owners h.next meets }

now_start : (c : Inputs) → now c [] ≡ start c
unfolding now_from
now_start c = refl

pub begun : (c : Inputs) → Calls c (start c)
begun c = record { log = []; is = now_start c; owners = length-replicate 16 kept.Free; next = tt }
