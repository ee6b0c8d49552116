-- What a call makes may stand, one entry after the other.
use Rattle.std.proofs.Common.{rules, ◌≡◌, ℕ, zero, suc, ◌+◌, ◌<◌, ◌≤◌, Bool, true, false, cond, not, ◌&&◌, ◌||◌, ◌==◌, List, [], ◌∷◌, ◌++◌, Option, Some, None, refl, sym, ap, ◌∙◌, subst, length, slice_get, inl, inr, ◌⊎◌, arith}
use Rattle.std.specs.Prelude.{⊤, drop, map, filter, count_by, nat_le, nat_lt}
use Rattle.std.specs.Option.{MatchOption, option_map, option_map_or, option_or, option_and_then}
use Rattle.std.specs.Str.{bytes_eq}
use Rattle.std.proofs.lemmas.Bool.{eqb-true, eq-eqb, ltb-true}
use Rattle.std.proofs.lemmas.Bool.Decides.{nat_tests}
use Rattle.run_duties.proofs.Rows.{position_passes, count_cons, kept, true_both, due_meets, kept_from}
use Rattle.std.proofs.lemmas.List.{length-append}
use Rattle.std.proofs.lemmas.List.Sums.{sum_by-append}
use Rattle.std.proofs.lemmas.Slice.Eq.{bytes_eq-Decides}
use Rattle.nd_base.specs.declared.numbers.AdapterNo.{AdapterNo}
use Rattle.nd_base.specs.declared.numbers.BindingNo.{BindingNo}
use Rattle.nd_base.specs.declared.numbers.CtxNo.{CtxNo}
use Rattle.log_fields.specs.declared.write.Write.{Write}
use Rattle.log_fields.specs.declared.field_values.Handler.{Handler}
use Rattle.log_fields.specs.declared.field_values.Handler.TheVariants as handler
use Rattle.call_log.specs.declared.entry.Entry.{Entry}
use Rattle.call_log.specs.declared.entry.Entry.TheVariants as entries
use Rattle.guest_world.specs.declared.answer.Reply.{Reply}
use Rattle.import_answers.specs.Outcomes.{Outcome, Breaks, Replies, Picks, PicksDescriptor, Spins, Sleeps, Synchronizes}
use Rattle.import_answers.specs.World.{word}
use Rattle.owner_machine.specs.declared.rows.Adapter.{Adapter}
use Rattle.owner_machine.specs.declared.rows.Context.{Context}
use Rattle.owner_machine.specs.declared.rows.Context.TheVariants as kept_context
use Rattle.owner_machine.specs.declared.rows.Loan.{Loan}
use Rattle.owner_machine.specs.declared.rows.Next.{Next as OwnerNext}
use Rattle.owner_machine.specs.declared.rows.Next.TheVariants as nexts
use Rattle.owner_machine.specs.declared.rows.Packet.{Packet}
use Rattle.owner_machine.specs.declared.rows.Request.{Request}
use Rattle.owner_machine.specs.State.{Owner, at, change, in_front, numbers_from, is_resetting, phase_is, pending}
use Rattle.owner_machine.specs.Contexts.{calls, calling, in_call, serialized, is_reset, indicate_receive_packet, send_complete, reset_complete, query_complete, set_complete}
use Rattle.owner_machine.specs.Packets.{at_miniport, is_miniport, is_aborted, is_refused, is_completed, may_end, behind_verdict, behind_complete, packet_adapter}
use Rattle.owner_machine.specs.Loans.{away_of, is_away, lent, lent_place, marks, has_holder, is_named, wanting}
use Rattle.owner_machine.specs.Requests.{handed_of, is_handed, is_set, may_end_ask, by_call, behind_answer}
use Rattle.owner_machine.specs.Handlers.{adapters_called, resources}
use Rattle.owner_machine.specs.Must.{Due as OwnerDue, owner_must, must_behind}
use Rattle.owner_machine.specs.Machine.{rule_against, has_case, last_rule}
use Rattle.owner_machine.specs.Machine as owners
use Rattle.owner_machine.specs.Laws.{number}
use Rattle.legal_run.specs.State.{Inputs, State, Next, Free, Takes, Verdicts, Spinning, Makes, Stops, Nothing, OnLock, OnClock, OnSync, adapter, adapter_in, adapter_of, start}
use Rattle.legal_run.specs.Owed.{first}
use Rattle.legal_run.specs.Calls.{Did, Broken, Waits, Made, did, by_outcome, outcome_of, makes, needs, completion, ending_of, was_handed, is_at, slot_address, handed_at, Walked, Fell, Went, onto, told, judged, indicated, array_made, words_from, is_copied, status_written, stays_home, indicate, answer, same_kind, fits, most_loans, most_packets, reset_end, answered as ask_answered, request_end, handed_request, port_entries, is_port_call, served, Drawn, Breaking, Draws, leaves}
use Rattle.legal_run.specs.After.{after, next_after, popped, call_next, leave_next, enter_next, takes, spent, reaches, cost_of, number_in}
use Rattle.legal_run.specs.Must.{Due, Owes, Exactly, made_next, must, Serves}
use Rattle.legal_run.specs.Run.{Run, now, Meets, freely, breaks_in}
use Rattle.run_duties.proofs.Standing.{standing, AllFit, fit_at, stays}
use Rattle.run_duties.proofs.Calls.{Calls, Sixteen, NextCalls, is_of, is_special, must_makes, stood, begun, step}
use Rattle.run_duties.proofs.Ones.{StandOnes, ones_after, ones_start, served_alone}

-- ---- entries that may stand one after the other

abbrev pub is_reset_end : Entry → Bool
is_reset_end (entries.ResetEnd _ _) = true
is_reset_end _ = false

-- the end of a reset is the last of them
pub record May (o : Owner) (e : Entry) (es : List Entry) : Type 0 where
  pub case : has_case o e ≡ true
  pub last : last_rule o e ≡ None
  pub ends : is_reset_end e ≡ true → es ≡ []

abbrev pub MayAll : Owner → List Entry → Type 0
MayAll o [] = ⊤
MayAll o (e ∷ es) = May o e es × MayAll (owners.after o e) es

abbrev pub DidMay : Owner → Did → Type 0
DidMay o (Made es lent writes) = MayAll o es
DidMay o _ = ⊤

abbrev WalkMay : Owner → Walked → Type 0
WalkMay o (Went es lent writes) = MayAll o es
WalkMay o _ = ⊤

needs_may : (o : Owner) (b : Bool) (rule : ℕ) (d : Did) → (b ≡ true → DidMay o d) → DidMay o (needs b rule d)
needs_may o true rule d h = h refl
needs_may o false rule d h = tt

either_may : (o : Owner) (b : Bool) (x y : Did) → (b ≡ true → DidMay o x) → DidMay o y → DidMay o (cond b x y)
either_may o true x y one other = one refl
either_may o false x y one other = other

-- ---- an open call

here_calls : (a : AdapterNo) (import : ℕ) (words : List ℕ) (cs : List Context) (k : ℕ) → adapter_in (slice_get cs k) ≡ Some a → at (calls a.0 import) (change (calling import words) cs k) k ≡ true
here_calls a import words [] k is = absurd (cc)
here_calls a import words (kept_context.Open (Some b) h enter call ∷ cs) zero is =
    let same : b ≡ a = cc in
    rw (eq-eqb import import refl) (rw (eq-eqb b.0 a.0 (ap (λ (n : AdapterNo). n.0) same)) refl)
here_calls a import words (kept_context.Open None h enter call ∷ cs) zero is = absurd (cc)
here_calls a import words (kept_context.Free ∷ cs) zero is = absurd (cc)
here_calls a import words (y ∷ cs) (suc k) is = here_calls a import words cs k is

pub some_counts : {A : Type 0} (p : A → Bool) (rows : List A) (k : ℕ) → at p rows k ≡ true → 1 ≤ count_by p rows
some_counts p [] k h = absurd (cc)
some_counts p (row ∷ rows) zero h = let n = ap number h in omega (arith, n, count_cons p row rows)
some_counts p (row ∷ rows) (suc k) h = let more = some_counts p rows k h in omega (arith, more, count_cons p row rows)

pub not_zero : (n : ℕ) → 1 ≤ n → not (n == 0) ≡ true
not_zero n h = grind arith

called : (o : Owner) (x : CtxNo) (a : AdapterNo) (import : ℕ) (words : List ℕ) → adapter_in (slice_get o.contexts x.0) ≡ Some a → in_call (owners.after o (entries.Call x import words)) a.0 import ≡ true
called o x a import words is =
    not_zero (count_by (calls a.0 import) (change (calling import words) o.contexts x.0))
    (some_counts (calls a.0 import) (change (calling import words) o.contexts x.0) x.0 (here_calls a import words o.contexts x.0 is))

-- ---- numbers of rows that pass

abbrev pub AllOf : (ℕ → Type 0) → List ℕ → Type 0
AllOf Q [] = ⊤
AllOf Q (x ∷ xs) = Q x × AllOf Q xs

pub numbers_pass : {A : Type 0} (n : ℕ) (test : A → Bool) (rows : List A) (Q : ℕ → Type 0) → ((i : ℕ) → at test rows i ≡ true → Q (n + i)) → AllOf Q (numbers_from n test rows)
numbers_pass n test [] Q w = tt
numbers_pass n test (row ∷ rows) Q w =
    let next : (i : ℕ) → n + suc i ≡ suc n + i = λ i. omega arith in
    let same : n + 0 ≡ n = omega arith in
    by_test (test row) refl (λ is. subst Q same (w 0 is)) (numbers_pass (suc n) test rows Q (λ i is. subst Q (next i) (w (suc i) is)))
  where
    by_test : (t : Bool) → test row ≡ t → (test row ≡ true → Q n) → AllOf Q (numbers_from (suc n) test rows) → AllOf Q (in_front t n (numbers_from (suc n) test rows))
    by_test true is here more = (here is, more)
    by_test false is here more = more

pub filter_all : (Q : ℕ → Type 0) (p : ℕ → Bool) (xs : List ℕ) → AllOf Q xs → AllOf Q (filter p xs)
filter_all Q p [] h = tt
filter_all Q p (x ∷ xs) h = by_test (p x) (filter_all Q p xs h.1)
  where
    by_test : (t : Bool) → AllOf Q (filter p xs) → AllOf Q (cond t (x ∷ filter p xs) (filter p xs))
    by_test true more = (h.0, more)
    by_test false more = more

pub first_all : (Q : ℕ → Type 0) (xs : List ℕ) (k : ℕ) → AllOf Q xs → first xs ≡ Some k → Q k
first_all Q [] k h is = absurd (cc)
first_all Q (x ∷ xs) k h is = let same : x ≡ k = cc in subst Q same h.0

found_handed : (s : State) (a packet k : ℕ) → handed_at s a packet ≡ Some k → at (was_handed a) s.owner.packets k ≡ true
found_handed s a packet k is =
    let rows : List ℕ = numbers_from 0 (was_handed a) s.owner.packets in
    let all = numbers_pass 0 (was_handed a) s.owner.packets (λ i. at (was_handed a) s.owner.packets i ≡ true) (λ i h. let same : i ≡ 0 + i = omega arith in subst (λ (n : ℕ). at (was_handed a) s.owner.packets n ≡ true) same h) in
    first_all (λ i. at (was_handed a) s.owner.packets i ≡ true) (filter (λ i. is_at packet (slot_address s i)) rows) k (filter_all (λ i. at (was_handed a) s.owner.packets i ≡ true) (λ i. is_at packet (slot_address s i)) rows all) is

-- ---- NdisMSendComplete

pub second_or : (a b : Bool) → b ≡ true → (a || b) ≡ true
second_or true b h = refl
second_or false b h = h

pub first_or : (a b : Bool) → a ≡ true → (a || b) ≡ true
first_or true b h = refl
first_or false b h = absurd (cc)

pub unless_so : (b : Bool) (rule : ℕ) → b ≡ true → Rattle.owner_machine.specs.State.unless b rule ≡ None
unless_so true rule h = refl
unless_so false rule h = absurd (cc)

completes : (o : Owner) (a k : ℕ) (m : Option Packet) → in_call o a send_complete ≡ true → option_map_or (was_handed a) m false ≡ true → option_map_or (λ p. is_miniport p.place) m false ≡ true
    → option_map_or (may_end o k) m false ≡ true
completes o a k None calls_it was is = absurd (cc)
completes o a k (Some p) calls_it was is =
    let of_adapter : p.adapter.0 ≡ a = eqb-true p.adapter.0 a (true_both _ _ was).0 in
    let in_it : in_call o p.adapter.0 send_complete ≡ true = subst (λ (n : ℕ). in_call o n send_complete ≡ true) (sym of_adapter) calls_it in
    let ends : is_completed o k p ≡ true = rw is (second_or (Rattle.owner_machine.specs.Packets.has_verdict o.next k p) (in_call o p.adapter.0 send_complete) in_it) in
    second_or (Rattle.owner_machine.specs.Packets.is_ending o.next p) (is_refused p.place || is_completed o k p) (second_or (is_refused p.place) (is_completed o k p) ends)

comes_late : (o : Owner) (a : ℕ) (m : Option Packet) → in_call o a send_complete ≡ true → option_map_or (was_handed a) m false ≡ true → option_map_or (λ p. is_miniport p.place) m false ≡ false
    → (option_map_or (λ p. is_aborted p.place) m false && in_call o (option_map_or (λ p. p.adapter.0) m Rattle.owner_machine.specs.State.no_adapter) send_complete) ≡ true
comes_late o a None calls_it was is = absurd (cc)
comes_late o a (Some p) calls_it was is =
    let of_adapter : p.adapter.0 ≡ a = eqb-true p.adapter.0 a (true_both _ _ was).0 in
    let in_it : in_call o p.adapter.0 send_complete ≡ true = subst (λ (n : ℕ). in_call o n send_complete ≡ true) (sym of_adapter) calls_it in
    let aborted : is_aborted p.place ≡ true = other (is_miniport p.place) (is_aborted p.place) is (true_both _ _ was).1 in
    rw aborted in_it
  where
    other : (x y : Bool) → x ≡ false → (x || y) ≡ true → y ≡ true
    other true y one two = absurd (cc)
    other false y one two = two

ending_may : (s : State) (o : Owner) (a k status : ℕ) → o.packets ≡ s.owner.packets → in_call o a send_complete ≡ true → at (was_handed a) s.owner.packets k ≡ true → not (status == pending) ≡ true
    → DidMay o (makes (ending_of s k status ∷ []))
ending_may s o a k status same calls_it was ends = by_test (at_miniport s.owner k) refl
  where
    by_test : (t : Bool) → at_miniport s.owner k ≡ t → MayAll o (cond t (entries.Complete (record { 0 = k }) (record { 0 = status })) (entries.Late (record { 0 = k })) ∷ [])
    by_test true is =
        let case : at (may_end o k) o.packets k ≡ true = subst (λ (ps : List Packet). at (may_end o k) ps k ≡ true) (sym same) (completes o a k (slice_get s.owner.packets k) calls_it was is) in
        (record { case = case; last = unless_so (not (status == pending)) 10 ends; ends = λ h. absurd (cc) }, tt)
    by_test false is =
        let there : (option_map_or (λ (p : Packet). is_aborted p.place) (slice_get s.owner.packets k) false && in_call o (option_map_or (λ (p : Packet). p.adapter.0) (slice_get s.owner.packets k) Rattle.owner_machine.specs.State.no_adapter) send_complete) ≡ true = comes_late o a (slice_get s.owner.packets k) calls_it was is in
        let case : (at (λ p. is_aborted p.place) o.packets k && in_call o (packet_adapter o k) send_complete) ≡ true =
        subst (λ (ps : List Packet). (at (λ p. is_aborted p.place) ps k && in_call o (option_map_or (λ p. p.adapter.0) (slice_get ps k) Rattle.owner_machine.specs.State.no_adapter) send_complete) ≡ true) (sym same) there in
        (record { case = case; last = refl; ends = λ h. absurd (cc) }, tt)

completion_may : (s : State) (o : Owner) (a packet status : ℕ) → o.packets ≡ s.owner.packets → in_call o a send_complete ≡ true → DidMay o (completion s status (handed_at s a packet))
completion_may s o a packet status same calls_it = by_found (handed_at s a packet) refl
  where
    by_found : (k : Option ℕ) → handed_at s a packet ≡ k → DidMay o (completion s status k)
    by_found None is = tt
    by_found (Some k) is =
        needs_may o (not (status == pending)) 10 (makes (ending_of s k status ∷ []))
        (λ ends. ending_may s o a k status same calls_it (found_handed s a packet k is) ends)

-- ---- NdisMIndicateReceivePacket

-- what a walk over an array finds of the owner machine: the next loan's number, and how many are away at most
record Walks (s : State) (o : Owner) (a j away : ℕ) : Type 0 where
  pub drivers : o.drivers ≡ s.owner.drivers
  pub serial : serialized o a ≡ serialized s.owner a
  pub calls_it : in_call o a indicate_receive_packet ≡ true
  pub next : length o.loans ≡ j
  pub few : count_by (away_of a) o.loans ≤ away

numbers_back : (xs : List ℕ) → map (λ (h : BindingNo). h.0) (map (λ (b : ℕ). record { 0 = b }) xs) ≡ xs
numbers_back [] = refl
numbers_back (x ∷ xs) = ap (λ (ys : List ℕ). x ∷ ys) (numbers_back xs)

same_bytes : (bs : List ℕ) → bytes_eq bs bs ≡ true
same_bytes bs = search (rules, bytes_eq-Decides)

indicate_case : (s : State) (o : Owner) (a j away : ℕ) (bytes : List ℕ) (copied : Bool) → Walks s o a j away → has_case o (indicate s a j bytes copied) ≡ true
indicate_case s o a j away bytes copied w =
    let named : bytes_eq (map (λ (h : BindingNo). h.0) (map (λ (b : ℕ). record { 0 = b }) (wanting s.owner a bytes))) (wanting o a bytes) ≡ true =
    subst (λ (ds : List _). bytes_eq (map (λ (h : BindingNo). h.0) (map (λ (b : ℕ). record { 0 = b }) (wanting s.owner a bytes))) (numbers_from 0 (Rattle.owner_machine.specs.Loans.wants a bytes) ds) ≡ true) (sym w.drivers)
    (subst (λ (ns : List ℕ). bytes_eq ns (wanting s.owner a bytes) ≡ true) (sym (numbers_back (wanting s.owner a bytes))) (same_bytes (wanting s.owner a bytes))) in
    rw (eq-eqb j (length o.loans) (sym w.next)) (rw (first_or (in_call o a indicate_receive_packet) (copied && in_call o a Rattle.owner_machine.specs.Contexts.lookahead_indicate) w.calls_it) named)

-- a packet that stays home is not away
home_place : (s : State) (o : Owner) (a : ℕ) (holders : List ℕ) (copied : Bool) → serialized o a ≡ serialized s.owner a → stays_home s a holders copied ≡ true
    → is_away (lent_place o a (map (λ (b : ℕ). record { 0 = b }) holders) copied) ≡ false
home_place s o a holders true same h = refl
home_place s o a [] false same h = rw (same ∙ h) refl
home_place s o a (b ∷ holders) false same h = absurd (cc)

no_room_needed : (b : Bool) (n : ℕ) → b ≡ false → Rattle.owner_machine.specs.State.unless (not b || nat_lt n 256) 12 ≡ None
no_room_needed true n h = absurd (cc)
no_room_needed false n h = refl

room : (b : Bool) (n away : ℕ) → n ≤ away → nat_lt away most_loans ≡ true → Rattle.owner_machine.specs.State.unless (not b || nat_lt n 256) 12 ≡ None
room b n away few less =
    let below : away < 256 = ltb-true away 256 less in
    let here : nat_lt n 256 ≡ true = grind (arith, nat_tests) in
    unless_so (not b || nat_lt n 256) 12 (second_or (not b) (nat_lt n 256) here)

one_more : (p : Loan → Bool) (rows : List Loan) (l : Loan) → count_by p (rows ++ l ∷ []) ≡ count_by p rows + number (p l)
one_more p rows l = let parts = sum_by-append (λ x. cond (p x) 1 0) rows (l ∷ []) in omega (arith, parts)

number_most : (b : Bool) → number b ≤ 1
number_most true = omega arith
number_most false = omega arith

lent_away : (o : Owner) (a : ℕ) (holders : List BindingNo) (copied : Bool) → is_away (lent_place o a holders copied) ≡ false → away_of a (lent o (adapter a) holders copied) ≡ false
lent_away o a holders copied is = rw is refl

walks_home : (s : State) (o : Owner) (a j away : ℕ) (bytes : List ℕ) (copied : Bool) → Walks s o a j away → stays_home s a (wanting s.owner a bytes) copied ≡ true
    → Walks s (owners.after o (indicate s a j bytes copied)) a (suc j) away
walks_home s o a j away bytes copied w home =
    let holders : List BindingNo = map (λ (b : ℕ). record { 0 = b }) (wanting s.owner a bytes) in
    let l : Loan = lent o (adapter a) holders copied in
    let none = ap number (lent_away o a holders copied (home_place s o a (wanting s.owner a bytes) copied w.serial home)) in
    let more = one_more (away_of a) o.loans l in
    let many = length-append o.loans (l ∷ []) in
    record { drivers = w.drivers; serial = w.serial; calls_it = w.calls_it; next = omega (arith, many, w.next); few = omega (arith, more, none, w.few) }

walks_out : (s : State) (o : Owner) (a j away : ℕ) (bytes : List ℕ) (copied : Bool) → Walks s o a j away → Walks s (owners.after o (indicate s a j bytes copied)) a (suc j) (suc away)
walks_out s o a j away bytes copied w =
    let holders : List BindingNo = map (λ (b : ℕ). record { 0 = b }) (wanting s.owner a bytes) in
    let l : Loan = lent o (adapter a) holders copied in
    let most = number_most (away_of a l) in
    let more = one_more (away_of a) o.loans l in
    let many = length-append o.loans (l ∷ []) in
    record { drivers = w.drivers; serial = w.serial; calls_it = w.calls_it; next = omega (arith, many, w.next); few = omega (arith, more, most, w.few) }

onto_may : (o : Owner) (e : Entry) (descriptor : ℕ) (status : List Write) (w : Walked) → has_case o e ≡ true → last_rule o e ≡ None → is_reset_end e ≡ false → WalkMay (owners.after o e) w
    → WalkMay o (onto e descriptor status w)
onto_may o e descriptor status (Fell rule) case last plain h = tt
onto_may o e descriptor status (Went es lent writes) case last plain h = (record { case = case; last = last; ends = λ is. absurd (cc) }, h)

told_may : (s : State) (o : Owner) (a j away packet : ℕ) (bytes : List ℕ) (home gone : Walked) → Walks s o a j away
    → ((n : Owner) → Walks s n a (suc j) away → WalkMay n home) → ((n : Owner) → Walks s n a (suc j) (suc away) → WalkMay n gone) → WalkMay o (told s a j away packet bytes home gone)
told_may s o a j away packet bytes home gone w at_home out =
    let copied : Bool = is_copied s packet in
    let e : Entry = indicate s a j bytes copied in
    let status : List Write = status_written s a packet (wanting s.owner a bytes) in
    let case = indicate_case s o a j away bytes copied w in
    by_home copied e status case refl (stays_home s a (wanting s.owner a bytes) copied) refl (nat_lt away most_loans) refl
  where
    by_home : (copied : Bool) (e : Entry) (status : List Write) → has_case o e ≡ true → e ≡ indicate s a j bytes copied → (t : Bool) → stays_home s a (wanting s.owner a bytes) copied ≡ t → (r : Bool) → nat_lt away most_loans ≡ r
        → WalkMay o (cond t (onto e packet status home) (cond r (onto e packet status gone) (Fell 12)))
    by_home copied e status case same true is r less =
        let f : Entry = indicate s a j bytes copied in
        let last : last_rule o f ≡ None = no_room_needed _ (count_by (away_of a) o.loans) (home_place s o a (wanting s.owner a bytes) copied w.serial is) in
        onto_may o e packet status home case (subst (λ (g : Entry). last_rule o g ≡ None) (sym same) last) (ap is_reset_end same)
        (at_home (owners.after o e) (subst (λ (g : Entry). Walks s (owners.after o g) a (suc j) away) (sym same) (walks_home s o a j away bytes copied w is)))
    by_home copied e status case same false is true less =
        let f : Entry = indicate s a j bytes copied in
        let last : last_rule o f ≡ None = room (is_away (lent_place o a (map (λ (b : ℕ). record { 0 = b }) (wanting s.owner a bytes)) copied)) (count_by (away_of a) o.loans) away w.few less in
        onto_may o e packet status gone case (subst (λ (g : Entry). last_rule o g ≡ None) (sym same) last) (ap is_reset_end same)
        (out (owners.after o e) (subst (λ (g : Entry). Walks s (owners.after o g) a (suc j) (suc away)) (sym same) (walks_out s o a j away bytes copied w)))
    by_home copied e status case same false is false less = tt

judged_may : (s : State) (o : Owner) (a j away packet : ℕ) (b : Bool) (frame : Option (List ℕ)) (home gone : Walked) → Walks s o a j away
    → ((n : Owner) → Walks s n a (suc j) away → WalkMay n home) → ((n : Owner) → Walks s n a (suc j) (suc away) → WalkMay n gone) → WalkMay o (judged s a j away packet b frame home gone)
judged_may s o a j away packet false frame home gone w at_home out = tt
judged_may s o a j away packet true None home gone w at_home out = tt
judged_may s o a j away packet true (Some bytes) home gone w at_home out = told_may s o a j away packet bytes home gone w at_home out

walked_may : (s : State) (o : Owner) (a j away : ℕ) (before packets : List ℕ) → Walks s o a j away → WalkMay o (indicated s a j away before packets)
unfolding indicated
walked_may s o a j away before [] w = tt
walked_may s o a j away before (packet ∷ packets) w =
    judged_may s o a j away packet _ _ (indicated s a (suc j) away (packet ∷ before) packets) (indicated s a (suc j) (suc away) (packet ∷ before) packets) w
    (λ n h. walked_may s n a (suc j) away (packet ∷ before) packets h) (λ n h. walked_may s n a (suc j) (suc away) (packet ∷ before) packets h)

array_may : (o : Owner) (n : ℕ) (w : Walked) → WalkMay o w → DidMay o (array_made n w)
array_may o n (Fell rule) h = tt
array_may o n (Went es lent writes) h = needs_may o (nat_le n most_packets) 12 (Made es lent writes) (λ is. h)

-- ---- NdisMResetComplete

reset_may : (s : State) (o : Owner) (a status : ℕ) → phase_is is_resetting o a ≡ phase_is is_resetting s.owner a → in_call o a reset_complete ≡ true → DidMay o (reset_end s a status)
reset_may s o a status same calls_it =
    let e : Entry = entries.ResetEnd (adapter a) (record { 0 = status }) in
    needs_may o (phase_is is_resetting s.owner a) 4 (needs (not (status == pending)) 10 (makes (e ∷ [])))
    (λ is. needs_may o (not (status == pending)) 10 (makes (e ∷ []))
    (λ ends. (record { case = rw (same ∙ is) (first_or (in_call o a reset_complete) _ calls_it); last = unless_so (not (status == pending)) 10 ends; ends = λ h. refl }, tt)))

-- ---- NdisMQueryInformationComplete, NdisMSetInformationComplete

ends_import : (set other : Bool) → same_kind set other ≡ true → cond other set_complete query_complete ≡ cond set set_complete query_complete
ends_import true true h = refl
ends_import true false h = absurd (cc)
ends_import false true h = absurd (cc)
ends_import false false h = refl

answer_may : (s : State) (o : Owner) (a : ℕ) (set : Bool) (status : ℕ) (r : ℕ) (row : Request) → o.requests ≡ s.owner.requests → slice_get s.owner.requests r ≡ Some row → handed_of a row ≡ true
    → in_call o a (cond set set_complete query_complete) ≡ true → DidMay o (ask_answered s a set status (Some r) (Some row))
answer_may s o a set status r row same is handed calls_it =
    let e : Entry = answer s a status r row.question in
    let fit : Bool = not (status == pending) && fits s a status row.question in
    needs_may o (same_kind set (is_set row.question)) 3 (needs fit 10 (makes (e ∷ [])))
    (λ kind. needs_may o fit 10 (makes (e ∷ [])) (λ both. (may kind (true_both (not (status == pending)) _ both).0, tt)))
  where
    may : same_kind set (is_set row.question) ≡ true → not (status == pending) ≡ true → May o (answer s a status r row.question) []
    may kind ends =
        let placed = true_both (is_handed row.place) (row.adapter.0 == a) handed in
        let of_adapter : row.adapter.0 ≡ a = eqb-true row.adapter.0 a placed.1 in
        let in_it : in_call o row.adapter.0 (cond (is_set row.question) set_complete query_complete) ≡ true =
        subst (λ (n : ℕ). in_call o n (cond (is_set row.question) set_complete query_complete) ≡ true) (sym of_adapter)
        (subst (λ (n : ℕ). in_call o a n ≡ true) (sym (ends_import set (is_set row.question) kind)) calls_it) in
        let by : by_call o row ≡ true = rw placed.0 in_it in
        let ending : may_end_ask o row ≡ true = second_or (Rattle.owner_machine.specs.Requests.by_verdict o.next row) _ (first_or (by_call o row) _ by) in
        let there : option_map_or (may_end_ask o) (slice_get s.owner.requests r) false ≡ true = ap (λ m. option_map_or (may_end_ask o) m false) is ∙ ending in
        let case : at (may_end_ask o) o.requests r ≡ true = subst (λ (qs : List Request). at (may_end_ask o) qs r ≡ true) (sym same) there in
        record { case = case; last = unless_so (not (status == pending)) 10 ends; ends = λ h. absurd (cc) }

request_may : (s : State) (o : Owner) (a : ℕ) (set : Bool) (status : ℕ) → o.requests ≡ s.owner.requests → in_call o a (cond set set_complete query_complete) ≡ true → DidMay o (request_end s a set status)
request_may s o a set status same calls_it = by_first (handed_request s a) refl
  where
    passing : (m : Option Request) → option_map_or (handed_of a) m false ≡ true → (r : ℕ) → slice_get s.owner.requests r ≡ m → DidMay o (ask_answered s a set status (Some r) m)
    passing None h r is = absurd (cc)
    passing (Some row) h r is = answer_may s o a set status r row same is h calls_it

    by_first : (m : Option ℕ) → handed_request s a ≡ m → DidMay o (ask_answered s a set status m (option_and_then (λ r. slice_get s.owner.requests r) m))
    by_first None is = tt
    by_first (Some r) is = passing (slice_get s.owner.requests r) (position_passes (handed_of a) s.owner.requests r is) r refl

-- ---- ports

wired_may : (o : Owner) (a : ℕ) (frames : List (List ℕ)) → at standing o.adapters a ≡ true → MayAll o (map (λ frame. entries.WireOut (record { 0 = a }) frame) frames)
wired_may o a [] is = tt
wired_may o a (frame ∷ frames) is = (record { case = is; last = refl; ends = λ h. absurd (cc) }, wired_may (owners.after o (entries.WireOut (record { 0 = a }) frame)) a frames is)

port_may : (s : State) (o : Owner) (a import : ℕ) (words : List ℕ) (reply : Reply) (port : Option ℕ) → at standing o.adapters a ≡ true → DidMay o (makes (port_entries s a import words reply port))
port_may s o a import words reply None is = tt
port_may s o a import words reply (Some port) is = (record { case = is; last = refl; ends = λ h. absurd (cc) }, wired_may _ a reply.sent is)

-- ---- whatever a call makes

called_same : (test : Adapter → Bool) (rows : List Adapter) (x : Option Context) (import a : ℕ) → ((row : Adapter) → test (resources import row) ≡ test row)
    → at test (adapters_called rows x import) a ≡ at test rows a
called_same test rows (Some (kept_context.Open (Some b) h enter call)) import a w = kept test (resources import) rows b.0 a w
called_same test rows (Some (kept_context.Open None h enter call)) import a w = refl
called_same test rows (Some kept_context.Free) import a w = refl
called_same test rows None import a w = refl

-- the owner machine behind the call
abbrev behind : State → CtxNo → ℕ → List ℕ → Owner
behind s x import words = owners.after s.owner (entries.Call x import words)

served_may : (s : State) (x : CtxNo) (a : AdapterNo) (import : ℕ) (words : List ℕ) (reply : Reply) → adapter_of s x.0 ≡ Some a → at standing s.owner.adapters a.0 ≡ true
    → DidMay (behind s x import words) (served s (Some a) import words reply)
served_may s x a import words reply is there =
    let o : Owner = behind s x import words in
    let in_it : in_call o a.0 import ≡ true = called s.owner x a import words is in
    let as_import : (n : ℕ) → (import == n) ≡ true → in_call o a.0 n ≡ true = λ n same. subst (λ (k : ℕ). in_call o a.0 k ≡ true) (eqb-true import n same) in_it in
    let serial : serialized o a.0 ≡ serialized s.owner a.0 = called_same (λ row. not row.deserialized) s.owner.adapters (slice_get s.owner.contexts x.0) import a.0 (λ row. refl) in
    let phase : phase_is is_resetting o a.0 ≡ phase_is is_resetting s.owner a.0 = called_same (λ row. is_resetting row.phase) s.owner.adapters (slice_get s.owner.contexts x.0) import a.0 (λ row. refl) in
    let stood : at standing o.adapters a.0 ≡ true = stays s.owner (entries.Call x import words) a.0 refl there in
    let array : List ℕ = words_from s (word words 2) (word words 3) in
    let away : ℕ = count_by (away_of a.0) s.owner.loans in
    either_may o (import == send_complete) _ _ (λ same. completion_may s o a.0 (word words 2) (word words 3) refl (as_import send_complete same))
    (either_may o (import == indicate_receive_packet) _ _
    (λ same. array_may o (word words 3) (indicated s a.0 (length s.owner.loans) away [] array)
    (walked_may s o a.0 (length s.owner.loans) away [] array (record { drivers = refl; serial = serial; calls_it = as_import indicate_receive_packet same; next = refl; few = omega arith })))
    (either_may o (import == reset_complete) _ _ (λ same. reset_may s o a.0 (word words 2) phase (as_import reset_complete same))
    (either_may o (import == query_complete) _ _ (λ same. request_may s o a.0 false (word words 2) refl (as_import query_complete same))
    (either_may o (import == set_complete) _ _ (λ same. request_may s o a.0 true (word words 2) refl (as_import set_complete same))
    (either_may o (is_port_call import) _ (makes []) (λ same. port_may s o a.0 import words reply _ stood) tt)))))

did_may : (s : State) (x : CtxNo) (a : Option AdapterNo) (import : ℕ) (words : List ℕ) (out : Outcome) → adapter_of s x.0 ≡ a → AllFit s.owner.adapters s.owner.contexts
    → DidMay (behind s x import words) (by_outcome s a import words out)
did_may s x None import words (Replies reply world) is fit = tt
did_may s x (Some a) import words (Replies reply world) is fit = served_may s x a import words reply is (fit_at s.owner.adapters s.owner.contexts x.0 a fit is)
did_may s x a import words (Breaks rule) is fit = tt
did_may s x a import words (Picks n reply world) is fit = tt
did_may s x a import words (PicksDescriptor kind handle reply world) is fit = tt
did_may s x a import words (Spins holder world) is fit = tt
did_may s x a import words (Sleeps moment) is fit = tt
did_may s x a import words Synchronizes is fit = tt

-- ---- behind what it makes

-- nothing stood directly before that asks for more; where a reset has ended, nothing more is made
abbrev pub Calm : OwnerNext → List Entry → Type 0
Calm nexts.Free es = ⊤
Calm (nexts.Aborting a) es = es ≡ []
Calm _ es = ⊥

pub record IsMade (o : Owner) (es : List Entry) : Type 0 where
  pub calm : Calm o.next es
  pub may : MayAll o es

abbrev pub NextMade : Owner → Next → Type 0
NextMade o (Makes x es lent) = IsMade o es
NextMade o _ = ⊤

-- what is due there: an abort behind the end of a reset, where nothing more is made, or the next of them
abbrev IsNext : List Entry → Entry → Type 0
IsNext es e = (es ≡ []) ⊎ ((rest : List Entry) × (es ≡ e ∷ rest))

calm_nil : (o : Owner) (n : OwnerNext) (es : List Entry) (d : OwnerDue) → Calm n es → must_behind o n ≡ Some d → es ≡ []
calm_nil o nexts.Free es d calm is = absurd (cc)
calm_nil o (nexts.Aborting a) es d calm is = calm
calm_nil o _ es d calm is = absurd calm

due_next : (c : Inputs) (s : State) (x : CtxNo) (es : List Entry) (e : Entry) → Calm s.owner.next es → is_special e ≡ false → (m : Option OwnerDue) → owner_must s.owner ≡ m
    → MatchOption (option_or (option_map Owes m) (made_next x es)) (freely c s e ≡ true) (λ d. Serves c s d e) → IsNext es e
due_next c s x [] e calm special m is h = inl refl
due_next c s x (f ∷ es) e calm special None is h = inr (es, ap (λ (g : Entry). g ∷ es) (sym h))
due_next c s x (f ∷ es) e calm special (Some d) is h = inl (calm_nil s.owner s.owner.next (f ∷ es) d calm is)

break_special : (c : Inputs) (s : State) (e : Entry) → is_special e ≡ false → breaks_in c s e ≡ true → ⊥
break_special c s (entries.Stop a why) special h = absurd (cc)
break_special c s _ special h = absurd (cc)

stands_next : (c : Inputs) (s : State) (x : CtxNo) (es : List Entry) (lent : List ℕ) (e : Entry) → s.next ≡ Makes x es lent → IsMade s.owner es → is_special e ≡ false → Meets c s e → IsNext es e
stands_next c s x es lent e is made special meets = elim meets.turn [
  | inl h ↦
      due_next c s x es e made.calm special (owner_must s.owner) refl
      (subst (λ (d : Option Due). MatchOption d (freely c s e ≡ true) (λ due. Serves c s due e)) (must_makes s x es lent is) h)
  | inr h ↦ absurd (break_special c s e special h)
]

behind_nil : (b : Bool) (n : OwnerNext) (k : ℕ) → Calm n [] → Calm (cond b (behind_verdict n k) nexts.Free) []
behind_nil true nexts.Free k h = tt
behind_nil true (nexts.Aborting a) k h = refl
behind_nil true _ k h = absurd h
behind_nil false n k h = tt

answer_nil : (n : OwnerNext) → Calm n [] → Calm (behind_answer n) []
answer_nil (nexts.Tail a) h = absurd h
answer_nil _ h = tt

-- behind the last of them
made_nil : (c : Inputs) (s : State) (e : Entry) (import : ℕ) → is_of import e ≡ true → Calm s.owner.next [] → IsMade (after c s e).owner []
made_nil c s (entries.Complete packet status) import is calm = record { calm = behind_nil _ s.owner.next packet.0 calm; may = tt }
made_nil c s (entries.Answer request status bytes) import is calm = record { calm = answer_nil s.owner.next calm; may = tt }
made_nil c s (entries.ResetEnd a status) import is calm = record { calm = refl; may = tt }
made_nil c s (entries.Late packet) import is calm = record { calm = tt; may = tt }
made_nil c s (entries.Port a way width port bytes) import is calm = record { calm = tt; may = tt }
made_nil c s (entries.WireOut a frame) import is calm = record { calm = tt; may = tt }
made_nil c s (entries.Indicate a j bytes holders copied) import is calm = record { calm = tt; may = tt }
made_nil c s _ import is calm = absurd (cc)

behind_free : (b : Bool) (n : OwnerNext) (k : ℕ) (es : List Entry) → n ≡ nexts.Free → Calm (cond b (behind_verdict n k) nexts.Free) es
behind_free true n k es is = subst (λ (m : OwnerNext). Calm (behind_verdict m k) es) (sym is) tt
behind_free false n k es is = tt

answer_free : (n : OwnerNext) (es : List Entry) → n ≡ nexts.Free → Calm (behind_answer n) es
answer_free n es is = subst (λ (m : OwnerNext). Calm (behind_answer m) es) (sym is) tt

-- behind one of them
made_rest : (c : Inputs) (s : State) (e : Entry) (es : List Entry) (import : ℕ) → is_of import e ≡ true → s.owner.next ≡ nexts.Free → MayAll s.owner (e ∷ es) → IsMade (after c s e).owner es
made_rest c s (entries.Complete packet status) es import is free may = record { calm = behind_free _ s.owner.next packet.0 es free; may = may.1 }
made_rest c s (entries.Answer request status bytes) es import is free may = record { calm = answer_free s.owner.next es free; may = may.1 }
made_rest c s (entries.ResetEnd a status) es import is free may = record { calm = may.0.ends refl; may = may.1 }
made_rest c s (entries.Late packet) es import is free may = record { calm = tt; may = may.1 }
made_rest c s (entries.Port a way width port bytes) es import is free may = record { calm = tt; may = may.1 }
made_rest c s (entries.WireOut a frame) es import is free may = record { calm = tt; may = may.1 }
made_rest c s (entries.Indicate a j bytes holders copied) es import is free may = record { calm = tt; may = may.1 }
made_rest c s _ es import is free may = absurd (cc)

calm_free : (n : OwnerNext) (e : Entry) (es : List Entry) → Calm n (e ∷ es) → n ≡ nexts.Free
calm_free nexts.Free e es h = refl
calm_free (nexts.Aborting a) e es h = absurd (cc)
calm_free _ e es h = absurd h

made_goes : (c : Inputs) (s : State) (e : Entry) (es : List Entry) (import : ℕ) → is_of import e ≡ true → IsMade s.owner es → IsNext es e → IsMade (after c s e).owner (drop 1 es)
made_goes c s e es import is made next = elim next [
  | inl none ↦
      let calm : Calm s.owner.next [] = subst (λ (fs : List Entry). Calm s.owner.next fs) none made.calm in
      subst (λ (fs : List Entry). IsMade (after c s e).owner (drop 1 fs)) (sym none) (made_nil c s e import is calm)
  | inr some ↦
      let all : IsMade s.owner (e ∷ some.0) = subst (IsMade s.owner) some.1 made in
      subst (λ (fs : List Entry). IsMade (after c s e).owner (drop 1 fs)) (sym some.1) (made_rest c s e some.0 import is (calm_free s.owner.next e some.0 all.calm) all.may)
]

popped_made : (c : Inputs) (s : State) (e : Entry) (n : Next) → s.next ≡ n → NextCalls s n → NextMade s.owner n → is_special e ≡ false → Meets c s e → NextMade (after c s e).owner (popped n)
popped_made c s e (Makes x es lent) is has made special meets =
    made_goes c s e es has.call.import (stood c s x es lent e is has special meets) made (stands_next c s x es lent e is made special meets)
popped_made c s e (Stops why ats) is has made special meets = tt
popped_made c s e Free is has made special meets = tt
popped_made c s e (Takes f) is has made special meets = tt
popped_made c s e (Verdicts es) is has made special meets = tt
popped_made c s e (Spinning x lock) is has made special meets = tt

-- ---- over a run

call_made : (c : Inputs) (s : State) (x : CtxNo) (import : ℕ) (words : List ℕ) (d : Did) → DidMay (behind s x import words) d → NextMade (behind s x import words) (call_next c s x words d)
call_made c s x import words (Broken rule) may = tt
call_made c s x import words (Waits (OnLock lock)) may = tt
call_made c s x import words (Waits (OnClock wake)) may = tt
call_made c s x import words (Waits (OnSync stage)) may = tt
call_made c s x import words (Waits Nothing) may = tt
call_made c s x import words (Made es lent writes) may = record { calm = tt; may = may }

leave_made : (c : Inputs) (s : State) (o : Owner) (x : CtxNo) (d : Drawn) → NextMade o (leave_next c s x d)
leave_made c s o x (Breaking rule) = tt
leave_made c s o x (Draws es) = tt

spent_made : (c : Inputs) (s : State) (o : Owner) (x : CtxNo) (b : Bool) → NextMade o (spent c s x b)
spent_made c s o x true = tt
spent_made c s o x false = tt

takes_made : (o : Owner) (j : Option ℕ) → NextMade o (takes j)
takes_made o None = tt
takes_made o (Some j) = tt

enter_made : (s : State) (o : Owner) (a : ℕ) (h : Handler) (words : List ℕ) → NextMade o (enter_next s a h words)
enter_made s o a handler.ReturnPacket words = takes_made o _
enter_made s o a _ words = tt

next_made : (c : Inputs) (s : State) (e : Entry) → AllFit s.owner.adapters s.owner.contexts → NextCalls s s.next → NextMade s.owner s.next → Meets c s e → NextMade (after c s e).owner (next_after c s e)
next_made c s (entries.Enter a x h words writes) fit has made meets = enter_made s _ (number_in c a) h words
next_made c s (entries.Leave x eax) fit has made meets = leave_made c s _ x (leaves c s x eax)
next_made c s (entries.Fault x kind address) fit has made meets = tt
next_made c s (entries.Turn x n) fit has made meets = spent_made c s _ x (reaches c s x n)
next_made c s (entries.Call x import words) fit has made meets =
    call_made c s x import words (did s x import words) (did_may s x (adapter_of s x.0) import words (outcome_of s x import words) refl fit)
next_made c s (entries.Reply x eax writes) fit has made meets = spent_made c s _ x (reaches c s x (cost_of s x (record { eax = eax; writes = writes })))
next_made c s (entries.Stop a why) fit has made meets = tt
next_made c s e fit has made meets = popped_made c s e s.next refl has made refl meets

record Makings (c : Inputs) (s : State) : Type 0 where
  pub calls : Calls c s
  pub ones : StandOnes c s.owner
  pub made : NextMade s.owner s.next

makings_step : Sixteen → (c : Inputs) (s : State) (e : Entry) → Makings c s → Meets c s e → Makings c (after c s e)
makings_step sixteen c s e h meets = record {
  calls = step sixteen c s e h.calls meets;
  ones = ones_after c s e meets.owner h.ones;
  made = next_made c s e h.ones.fit h.calls.next h.made meets;
}

makings_now : Sixteen → (c : Inputs) (log : List Entry) → Run c log → Makings c (now c log)
makings_now sixteen c log run = kept_from c (Makings c) (makings_step sixteen c) (start c) log (record { calls = begun c; ones = ones_start c; made = tt }) run

-- ---- what must stand may stand

pub unruled : (o : Owner) (e : Entry) → owner_must o ≡ None → has_case o e ≡ true → last_rule o e ≡ None → rule_against o e ≡ None
unruled o e none case last = rw (served_alone o e none) (rw case last)

pub made_goes_on : Sixteen → (c : Inputs) (log : List Entry) (x : CtxNo) (e : Entry) (es : List Entry) (lent : List ℕ) → Run c log → (now c log).next ≡ Makes x (e ∷ es) lent → Meets c (now c log) e
made_goes_on sixteen c log x e es lent run is =
    let s : State = now c log in
    let made : IsMade s.owner (e ∷ es) = subst (NextMade s.owner) is (makings_now sixteen c log run).made in
    let none : owner_must s.owner ≡ None = ap (must_behind s.owner) (calm_free s.owner.next e es made.calm) in
    let due : must s ≡ Some (Exactly e) = must_makes s x (e ∷ es) lent is ∙ ap (λ m. option_or (option_map Owes m) (made_next x (e ∷ es))) none in
    due_meets c s (Exactly e) e due refl (unruled s.owner e none made.may.0.case made.may.0.last)
