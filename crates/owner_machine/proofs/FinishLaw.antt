-- Behind the tail of a stopped adapter nothing of it is left.
use Rattle.std.proofs.Common.{◌≡◌, ℕ, zero, suc, ◌+◌, ◌≤◌, ◌<◌, Bool, true, false, cond, not, ◌&&◌, ◌||◌, ◌==◌, List, [], ◌∷◌, ◌++◌, length, Option, Some, None, refl, sym, ap, ◌∙◌, subst, inl, inr, ◌⊎◌, arith, slice_get}
use Rattle.std.specs.Prelude.{count_by, slice_set}
use Rattle.std.specs.List.{position}
use Rattle.std.specs.Option.{option_map_or, option_map}
use Rattle.std.proofs.lemmas.List.Sums.{sum_by-append}
use Rattle.nd_base.specs.declared.numbers.AdapterNo.{AdapterNo}
use Rattle.nd_base.specs.declared.numbers.BindingNo.{BindingNo}
use Rattle.nd_base.specs.declared.numbers.Phase.{Phase}
use Rattle.nd_base.specs.declared.numbers.Phase.TheVariants.{Running, Resetting as ResetPhase, Stopped}
use Rattle.log_fields.specs.declared.field_values.Question.{Question}
use Rattle.call_log.specs.declared.entry.Entry.{Entry}
use Rattle.call_log.specs.declared.entry.Entry.TheVariants.{Send, Tag, Hand, Requeue, Late, Complete, Indicate, Return, Back, Ask, HandAsk, Answer, Enter, Leave, Call, Reply, ResetBegin, ResetEnd, Stop, Cancel, Event}
use Rattle.owner_machine.specs.declared.rows.Packet.{Packet}
use Rattle.owner_machine.specs.declared.rows.Place.{Place}
use Rattle.owner_machine.specs.declared.rows.Place.TheVariants.{Queue, Miniport, Done, Aborted, Refused}
use Rattle.owner_machine.specs.declared.rows.Loan.{Loan}
use Rattle.owner_machine.specs.declared.rows.Request.{Request}
use Rattle.owner_machine.specs.declared.rows.RequestPlace.{RequestPlace}
use Rattle.owner_machine.specs.declared.rows.RequestPlace.TheVariants.{Asked, Handed, Answered, Refused as TurnedAway}
use Rattle.owner_machine.specs.declared.rows.Adapter.{Adapter}
use Rattle.owner_machine.specs.declared.rows.Context.{Context}
use Rattle.owner_machine.specs.declared.rows.Context.TheVariants.{Free, Open}
use Rattle.owner_machine.specs.declared.rows.Next.{Next}
use Rattle.owner_machine.specs.declared.rows.Next.TheVariants.{Free as Nothing, Tail}
use Rattle.owner_machine.specs.State.{Owner, at, change, adapter_of, is_stopped, is_running, phase_is, stands, is_number, closing, failure}
use Rattle.owner_machine.specs.Contexts.{in_call, how_many, any_handler, indicate_receive_packet, lookahead_indicate}
use Rattle.owner_machine.specs.Packets.{is_out, is_queue, is_miniport, out_of, queued_of, placed, handed, tagged, sent, completed, aborts, enter_of, packet_adapter, has_verdict, is_ending, behind_verdict, behind_complete}
use Rattle.owner_machine.specs.Loans.{away_of, is_away, holds, returned, gone_home, lent, behind_back}
use Rattle.owner_machine.specs.Requests.{is_asked, is_handed, is_open, open_of, behind_answer, asked_of, answered, handed_ask, asked, first_place, refusal, refused_with, request_adapter, ask_enter}
use Rattle.owner_machine.specs.Handlers.{outstanding, adapter_entered, adapters_entered, behind_leave, is_none}
use Rattle.owner_machine.specs.Adapters.{held_back_now, reset_begun, reset_ended, stopped}
use Rattle.owner_machine.specs.Must.{Due, Completes, BacksFailed, Answers, tail, serves, first_due, is_served, owner_must, must_behind, may_break_in}
use Rattle.owner_machine.specs.Machine.{rule_against, after}
use Rattle.owner_machine.specs.Legal.{Legal, Ends, Goes, Registers, Breaches}
use Rattle.owner_machine.specs.Laws.{number, kept_of, waits_of, left_over, in_tail}
use Rattle.owner_machine.proofs.Bools.{case_of, served_of, and_first, and_second, equal, or_true, not_true, below, same_number}
use Rattle.owner_machine.proofs.Changed.{keeps, count_cons, count_change, first_passes, weaker, passes_at, within}
use Rattle.owner_machine.proofs.PacketLaw.{no_packet}
use Rattle.owner_machine.proofs.RequestLaw.{no_request}
use Rattle.owner_machine.proofs.LoanLaw.{left_away, lent_away}
use Rattle.owner_machine.proofs.TailLaw.{after_false, tail_ends}
use Rattle.owner_machine.proofs.Overlap.{other_row}
use Rattle.owner_machine.proofs.StopLaw.{IsStill, has_stopped, still_after, same_phase, no_stop, were, entered_phase, left_phases, called_phases, answered_phases, calls_run, other_adapter}

-- ---- counts

same_count : {A : Type 0} (p other : A → Bool) (f : A → A) (rows : List A) (k : ℕ) → at other rows k ≡ true → ((row : A) → other row ≡ true → p (f row) ≡ p row) → count_by p (change f rows k) ≡ count_by p rows
same_count p other f rows k is same = let e = count_change p f rows k in let n = ap number (keeps p other f rows k k is same) in omega (arith, e, n)

fewer : {A : Type 0} (p : A → Bool) (f : A → A) (rows : List A) (k : ℕ) → ((row : A) → p (f row) ≡ false) → count_by p (change f rows k) ≤ count_by p rows
fewer p f rows k none = let e = count_change p f rows k in let n = ap number (after_false p f rows k none) in omega (arith, e, n)

grown : {A : Type 0} (p : A → Bool) (rows : List A) (new : A) → p new ≡ false → count_by p (rows ++ new ∷ []) ≡ count_by p rows
grown p rows new none = let e = sum_by-append (λ x. cond (p x) 1 0) rows (new ∷ []) in let n = ap number none in omega (arith, e, n)

-- ---- a stopped adapter

not_running : (rows : List Adapter) (a : ℕ) → at has_stopped rows a ≡ true → at (λ row. is_running row.phase) rows a ≡ false
not_running [] a st = refl
not_running (row ∷ rows) zero st = by_phase row.phase st
  where
    by_phase : (phase : Phase) → is_stopped phase ≡ true → is_running phase ≡ false
    by_phase Running st = absurd (cc)
    by_phase _ st = refl
not_running (row ∷ rows) (suc a) st = not_running rows a st

closes : (rows : List Adapter) (a : ℕ) (question : Question) → at has_stopped rows a ≡ true → refusal (option_map_or (λ row. Some row.phase) (slice_get rows a) None) question ≡ Some closing
closes [] a question st = absurd (cc)
closes (row ∷ rows) zero question st = by_phase row.phase st
  where
    by_phase : (phase : Phase) → is_stopped phase ≡ true → refusal (Some phase) question ≡ Some closing
    by_phase Running st = absurd (cc)
    by_phase ResetPhase st = absurd (cc)
    by_phase _ st = refl
closes (row ∷ rows) (suc a) question st = closes rows a question st

and_no : (b : Bool) → b && false ≡ false
and_no true = refl
and_no false = refl

-- what is sent to it is refused
sent_none : (o : Owner) (driver : BindingNo) (a : ℕ) → at has_stopped o.adapters a ≡ true → kept_of a (sent o driver) ≡ false
sent_none o driver a st = by_adapter (adapter_of o driver.0 == a) refl
  where
    place : Bool → Place
    place runs = cond runs Queue Refused

    refused : (runs : Bool) → runs ≡ false → (is_queue (place runs) || is_miniport (place runs)) && (adapter_of o driver.0 == a) ≡ false
    refused true h = absurd (cc)
    refused false h = refl

    by_adapter : (t : Bool) → (adapter_of o driver.0 == a) ≡ t → kept_of a (sent o driver) ≡ false
    by_adapter true is = refused (phase_is is_running o (adapter_of o driver.0)) (ap (λ (m : ℕ). phase_is is_running o m) (equal (adapter_of o driver.0) a is) ∙ not_running o.adapters a st)
    by_adapter false is = ap (λ (b : Bool). (is_queue (sent o driver).place || is_miniport (sent o driver).place) && b) is ∙ and_no (is_queue (sent o driver).place || is_miniport (sent o driver).place)

asked_none : (o : Owner) (driver : BindingNo) (question : Question) (a : ℕ) → at has_stopped o.adapters a ≡ true → waits_of a (asked o driver question) ≡ false
asked_none o driver question a st = by_adapter (adapter_of o driver.0 == a) refl
  where
    refused : (status : Option ℕ) → status ≡ Some closing → (is_asked (first_place status) || is_handed (first_place status)) && (adapter_of o driver.0 == a) ≡ false
    refused None h = absurd (cc)
    refused (Some s) h = refl

    by_adapter : (t : Bool) → (adapter_of o driver.0 == a) ≡ t → waits_of a (asked o driver question) ≡ false
    by_adapter true is = refused (refused_with o (adapter_of o driver.0) question) (ap (λ (m : ℕ). refused_with o m question) (equal (adapter_of o driver.0) a is) ∙ closes o.adapters a question st)
    by_adapter false is = ap (λ (b : Bool). (is_asked (asked o driver question).place || is_handed (asked o driver question).place) && b) is ∙ and_no (is_asked (asked o driver question).place || is_handed (asked o driver question).place)

-- ---- one entry

ended_none : (b : Bool) → is_queue (cond b Aborted Done) || is_miniport (cond b Aborted Done) ≡ false
ended_none true = refl
ended_none false = refl

completed_none : (next : Next) (a : ℕ) (p : Packet) → kept_of a (completed next p) ≡ false
completed_none next a p = ap (λ (b : Bool). b && (p.adapter.0 == a)) (ended_none (aborts next p))

hand_same : (a enter : ℕ) (p : Packet) → is_queue p.place ≡ true → kept_of a (handed enter p) ≡ kept_of a p
hand_same a enter p is = sym (ap (λ (b : Bool). (b || is_miniport p.place) && (p.adapter.0 == a)) is)

requeue_same : (a : ℕ) (p : Packet) → is_miniport p.place ≡ true → kept_of a (placed Queue p) ≡ kept_of a p
requeue_same a p is = sym (ap (λ (b : Bool). b && (p.adapter.0 == a)) (or_second (is_queue p.place) (is_miniport p.place) is))
  where
    or_second : (b c : Bool) → c ≡ true → b || c ≡ true
    or_second true c h = refl
    or_second false c h = h

return_same : (a b : ℕ) (l : Loan) → holds b l ≡ true → away_of a (returned b l) ≡ away_of a l
return_same a b l is = ap (λ (t : Bool). t && (l.adapter.0 == a)) (left_away _ ∙ sym (lent_away l.place (and_first _ _ is)))

ask_same : (a enter : ℕ) (r : Request) → is_asked r.place ≡ true → waits_of a (handed_ask enter r) ≡ waits_of a r
ask_same a enter r is = sym (ap (λ (b : Bool). (b || is_handed r.place) && (r.adapter.0 == a)) is)

indicate_none : (o : Owner) (adapter : AdapterNo) (holders : List BindingNo) (copied : Bool) (a : ℕ) → (in_call o adapter.0 indicate_receive_packet || (copied && in_call o adapter.0 lookahead_indicate)) ≡ true → how_many o any_handler a ≡ 0 → away_of a (lent o adapter holders copied) ≡ false
indicate_none o adapter holders copied a calls none = by_adapter (adapter.0 == a) refl
  where
    no_call : (adapter.0 == a) ≡ true → ⊥
    no_call is = elim (or_true (in_call o adapter.0 indicate_receive_packet) (copied && in_call o adapter.0 lookahead_indicate) calls) [
      | inl in_indicate ↦ calls_run o a indicate_receive_packet (subst (λ (m : ℕ). in_call o m indicate_receive_packet ≡ true) (equal adapter.0 a is) in_indicate) none
      | inr in_lookahead ↦ calls_run o a lookahead_indicate (subst (λ (m : ℕ). in_call o m lookahead_indicate ≡ true) (equal adapter.0 a is) (and_second copied (in_call o adapter.0 lookahead_indicate) in_lookahead)) none
    ]

    by_adapter : (t : Bool) → (adapter.0 == a) ≡ t → away_of a (lent o adapter holders copied) ≡ false
    by_adapter true is = absurd (no_call is)
    by_adapter false is = ap (λ (b : Bool). is_away (lent o adapter holders copied).place && b) is ∙ and_no (is_away (lent o adapter holders copied).place)

zero_step : (o : Owner) (e : Entry) (a : ℕ) → rule_against o e ≡ None → how_many o any_handler a ≡ 0 → at has_stopped o.adapters a ≡ true → left_over o a ≡ 0 → left_over (after o e) a ≡ 0
zero_step o (Send driver packet bytes) a h none st zero_left = let e = grown (kept_of a) o.packets (sent o driver) (sent_none o driver a st) in omega (arith, e, zero_left)
zero_step o (Tag packet id) a h none st zero_left = let e = same_count (kept_of a) (λ row. true) (tagged id) o.packets packet.0 (within o.packets packet.0 (below packet.0 (length o.packets) (and_first _ _ (and_second _ _ (case_of o (Tag packet id) h))))) (λ row is. refl) in omega (arith, e, zero_left)
zero_step o (Hand packet) a h none st zero_left = let e = same_count (kept_of a) (queued_of (packet_adapter o packet.0)) (handed (enter_of o.next)) o.packets packet.0 (first_passes (queued_of (packet_adapter o packet.0)) o.packets no_packet packet.0 (and_second _ _ (case_of o (Hand packet) h))) (λ row is. hand_same a (enter_of o.next) row (and_first _ _ is)) in omega (arith, e, zero_left)
zero_step o (Requeue packet) a h none st zero_left = let e = same_count (kept_of a) (λ p. is_miniport p.place) (placed Queue) o.packets packet.0 (and_first _ _ (and_second _ _ (case_of o (Requeue packet) h))) (requeue_same a) in omega (arith, e, zero_left)
zero_step o (Complete packet status) a h none st zero_left = let e = fewer (kept_of a) (completed o.next) o.packets packet.0 (completed_none o.next a) in omega (arith, e, zero_left)
zero_step o (Late packet) a h none st zero_left = let e = fewer (kept_of a) (placed Done) o.packets packet.0 (λ row. refl) in omega (arith, e, zero_left)
zero_step o (Indicate adapter loan bytes holders copied) a h none st zero_left = let e = grown (away_of a) o.loans (lent o adapter holders copied) (indicate_none o adapter holders copied a (and_first _ _ (and_second _ _ (case_of o (Indicate adapter loan bytes holders copied) h))) none) in omega (arith, e, zero_left)
zero_step o (Return driver loan) a h none st zero_left = let e = same_count (away_of a) (holds driver.0) (returned driver.0) o.loans loan.0 (case_of o (Return driver loan) h) (return_same a driver.0) in omega (arith, e, zero_left)
zero_step o (Back loan failed) a h none st zero_left = let e = fewer (away_of a) gone_home o.loans loan.0 (λ row. refl) in omega (arith, e, zero_left)
zero_step o (Ask driver request question) a h none st zero_left = let e = grown (waits_of a) o.requests (asked o driver question) (asked_none o driver question a st) in omega (arith, e, zero_left)
zero_step o (HandAsk request) a h none st zero_left = let e = same_count (waits_of a) (asked_of (request_adapter o request.0)) (handed_ask (ask_enter o.next)) o.requests request.0 (first_passes (asked_of (request_adapter o request.0)) o.requests no_request request.0 (and_first _ _ (and_second _ _ (case_of o (HandAsk request) h)))) (λ row is. ask_same a (ask_enter o.next) row (and_first _ _ is)) in omega (arith, e, zero_left)
zero_step o (Answer request status bytes) a h none st zero_left = let e = fewer (waits_of a) answered o.requests request.0 (λ row. refl) in omega (arith, e, zero_left)
zero_step o _ a h none st zero_left = zero_left

-- ---- the tail

count_less : {A : Type 0} (p q : A → Bool) (rows : List A) → ((row : A) → p row ≡ true → q row ≡ true) → count_by p rows ≤ count_by q rows
count_less p q [] w = omega arith
count_less p q (row ∷ rows) w = let more = count_less p q rows w in let one = by_test (p row) refl in omega (arith, more, one, count_cons p row rows, count_cons q row rows)
  where
    by_test : (t : Bool) → p row ≡ t → number (p row) ≤ number (q row)
    by_test true is = let n = ap number (w row is) in let m = ap number is in omega (arith, n, m)
    by_test false is = let m = ap number is in omega (arith, m)

kept_out : (a : ℕ) (p : Packet) → kept_of a p ≡ true → out_of a p ≡ true
kept_out a p is = by_place p.place is
  where
    by_place : (place : Place) → (is_queue place || is_miniport place) && (p.adapter.0 == a) ≡ true → is_out place && (p.adapter.0 == a) ≡ true
    by_place Queue h = h
    by_place Miniport h = h
    by_place Refused h = absurd (cc)
    by_place Done h = absurd (cc)
    by_place Aborted h = absurd (cc)

waits_open : (a : ℕ) (r : Request) → waits_of a r ≡ true → open_of a r ≡ true
waits_open a r is = by_place r.place is
  where
    by_place : (place : RequestPlace) → (is_asked place || is_handed place) && (r.adapter.0 == a) ≡ true → is_open place && (r.adapter.0 == a) ≡ true
    by_place Asked h = h
    by_place Handed h = h
    by_place TurnedAway h = absurd (cc)
    by_place Answered h = absurd (cc)

tail_over : (o : Owner) (a : ℕ) → tail o a ≡ None → left_over o a ≡ 0
tail_over o a is =
    let none = tail_ends o a is in
    let packets = count_less (kept_of a) (out_of a) o.packets (kept_out a) in
    let requests = count_less (waits_of a) (open_of a) o.requests (waits_open a) in
    omega (arith, none, packets, requests)

cond_true : {A : Type 0} (b : Bool) (x y : A) → b ≡ true → cond b x y ≡ x
cond_true true x y h = refl
cond_true false x y h = absurd (cc)

complete_goes : (o : Owner) (a k : ℕ) (adapter : AdapterNo) (e : Entry) → o.next ≡ Tail adapter → (adapter.0 == a) ≡ true → position (out_of a) o.packets ≡ Some k → serves o (Completes false k failure) e ≡ true → in_tail (after o e).next a ≡ true
complete_goes o a k adapter (Complete packet status) is same found served =
    let here : packet.0 ≡ k = equal packet.0 k (and_first (packet.0 == k) (status.0 == failure) served) in
    let passes : at (out_of a) o.packets packet.0 ≡ true = passes_at (out_of a) o.packets no_packet packet.0 (found ∙ ap (λ (n : ℕ). Some n) (sym here)) in
    let ending : at (is_ending (Tail adapter)) o.packets packet.0 ≡ true = subst (λ (m : ℕ). at (out_of m) o.packets packet.0 ≡ true) (sym (equal adapter.0 a same)) passes in
    let goes : at (λ p. has_verdict (Tail adapter) packet.0 p || is_ending (Tail adapter) p) o.packets packet.0 ≡ true = ending in
    let next : cond (at (λ p. has_verdict (Tail adapter) packet.0 p || is_ending (Tail adapter) p) o.packets packet.0) (behind_verdict (Tail adapter) packet.0) Nothing ≡ Tail adapter = cond_true _ (Tail adapter) Nothing goes in
    let after_is : behind_complete o packet.0 ≡ Tail adapter = ap (λ (n : Next). cond (at (λ p. has_verdict n packet.0 p || is_ending n p) o.packets packet.0) (behind_verdict n packet.0) Nothing) is ∙ next in
    ap (λ (n : Next). in_tail n a) after_is ∙ same
complete_goes o a k adapter (Tag packet id) is same found served = absurd (cc)
complete_goes o a k adapter _ is same found served = absurd (cc)

back_goes : (o : Owner) (a j : ℕ) (adapter : AdapterNo) (e : Entry) → o.next ≡ Tail adapter → (adapter.0 == a) ≡ true → serves o (BacksFailed j) e ≡ true → in_tail (after o e).next a ≡ true
back_goes o a j adapter (Back loan failed) is same served = ap (λ (n : Next). in_tail (behind_back n) a) is ∙ same
back_goes o a j adapter _ is same served = absurd (cc)

answer_goes : (o : Owner) (a r : ℕ) (adapter : AdapterNo) (e : Entry) → o.next ≡ Tail adapter → (adapter.0 == a) ≡ true → serves o (Answers r failure) e ≡ true → in_tail (after o e).next a ≡ true
answer_goes o a r adapter (Answer request status bytes) is same served = ap (λ (n : Next). in_tail (behind_answer n) a) is ∙ same
answer_goes o a r adapter _ is same served = absurd (cc)

or_false : (b : Bool) → b || false ≡ true → b ≡ true
or_false true h = refl
or_false false h = h

served_due : (o : Owner) (a : ℕ) (adapter : AdapterNo) (due : Due) (e : Entry) → o.next ≡ Tail adapter → (adapter.0 == a) ≡ true → tail o a ≡ Some due → is_served o e ≡ true → serves o due e ≡ true
served_due o a adapter due e is same some served =
    let must : owner_must o ≡ Some due = ap (λ (n : Next). must_behind o n) is ∙ ap (λ (m : ℕ). tail o m) (equal adapter.0 a same) ∙ some in
    let both : serves o due e || may_break_in o.next e ≡ true = sym (ap (λ (d : Option Due). option_map_or (λ x. serves o x e || may_break_in o.next e) d true) must) ∙ served in
    or_false (serves o due e) (sym (ap (λ (n : Next). serves o due e || may_break_in n e) is) ∙ both)

tail_goes : (o : Owner) (a : ℕ) (adapter : AdapterNo) (e : Entry) → o.next ≡ Tail adapter → (adapter.0 == a) ≡ true → is_served o e ≡ true → (tail o a ≡ None) ⊎ (in_tail (after o e).next a ≡ true)
tail_goes o a adapter e is same served = go (position (out_of a) o.packets) (position (away_of a) o.loans) (position (open_of a) o.requests) refl refl refl
  where
    due_of : Option ℕ → Option ℕ → Option ℕ → Option Due
    due_of x y z = first_due (option_map (λ k. Completes false k failure) x) (first_due (option_map (λ j. BacksFailed j) y) (option_map (λ r. Answers r failure) z))

    is_due : (x y z : Option ℕ) → position (out_of a) o.packets ≡ x → position (away_of a) o.loans ≡ y → position (open_of a) o.requests ≡ z → tail o a ≡ due_of x y z
    is_due x y z px py pz = ap (λ (u : Option ℕ). due_of u (position (away_of a) o.loans) (position (open_of a) o.requests)) px ∙ ap (λ (u : Option ℕ). due_of x u (position (open_of a) o.requests)) py ∙ ap (λ (u : Option ℕ). due_of x y u) pz

    go : (x y z : Option ℕ) → position (out_of a) o.packets ≡ x → position (away_of a) o.loans ≡ y → position (open_of a) o.requests ≡ z → (tail o a ≡ None) ⊎ (in_tail (after o e).next a ≡ true)
    go (Some k) y z px py pz = inr (complete_goes o a k adapter e is same px (served_due o a adapter (Completes false k failure) e is same (is_due (Some k) y z px py pz) served))
    go None (Some j) z px py pz = inr (back_goes o a j adapter e is same (served_due o a adapter (BacksFailed j) e is same (is_due None (Some j) z px py pz) served))
    go None None (Some r) px py pz = inr (answer_goes o a r adapter e is same (served_due o a adapter (Answers r failure) e is same (is_due None None (Some r) px py pz) served))
    go None None None px py pz = inl (is_due None None None px py pz)

-- ---- each entry

abbrev pub IsFinished : Owner → ℕ → Type 0
IsFinished o a = phase_is is_stopped o a ≡ true → (in_tail o.next a ≡ true) ⊎ (left_over o a ≡ 0)

-- the entry stops the adapter, or the adapter was stopped before it
stopped_before : (o : Owner) (e : Entry) (a : ℕ) → at has_stopped (after o e).adapters a ≡ true → (in_tail (after o e).next a ≡ true) ⊎ (at has_stopped o.adapters a ≡ true)
stopped_before o (Cancel b id) a st = inr (same_phase _ o.adapters (adapter_of o b.0) a (λ row. refl) st)
stopped_before o (Event b m bytes taken) a st = inr (same_phase _ o.adapters (adapter_of o b.0) a (λ row. refl) st)
stopped_before o (Requeue k) a st = inr (same_phase held_back_now o.adapters (packet_adapter o k.0) a (λ row. refl) st)
stopped_before o (ResetBegin b) a st = inr (no_stop reset_begun o.adapters b.0 a (λ row. refl) st).1
stopped_before o (ResetEnd b status) a st = inr (no_stop reset_ended o.adapters b.0 a (λ row. refl) st).1
stopped_before o (Enter (Some b) c handler words writes) a st = inr (were (adapter_entered handler) o.adapters b.0 a (entered_phase handler) st)
stopped_before o (Enter None c handler words writes) a st = inr st
stopped_before o (Leave c eax) a st = inr (left_phases o.adapters (slice_get o.contexts c.0) eax a st)
stopped_before o (Call c import words) a st = inr (called_phases o.adapters (slice_get o.contexts c.0) import a st)
stopped_before o (Reply c eax writes) a st = inr (answered_phases o.adapters (slice_get o.contexts c.0) a st)
stopped_before o (Stop b cause) a st = by_adapter (b.0 == a) refl
  where
    by_adapter : (t : Bool) → (b.0 == a) ≡ t → ((b.0 == a) ≡ true) ⊎ (at has_stopped o.adapters a ≡ true)
    by_adapter true is = inl is
    by_adapter false other = inr (sym (other_row has_stopped stopped o.adapters b.0 a other) ∙ st)
stopped_before o _ a st = inr st

tail_next : (n : Next) (a : ℕ) → in_tail n a ≡ true → (adapter : AdapterNo) × (n ≡ Tail adapter) × ((adapter.0 == a) ≡ true)
tail_next (Tail adapter) a is = (adapter, refl, is)
tail_next _ a is = absurd (cc)

finished_after : (o : Owner) (e : Entry) (a : ℕ) → rule_against o e ≡ None → IsStill o a → IsFinished o a → IsFinished (after o e) a
finished_after o e a h still_o finished st = elim (stopped_before o e a st) [
  | inl now ↦ inl now
  | inr was ↦ elim (finished was) [
    | inl tailing ↦ let n = tail_next o.next a tailing in elim (tail_goes o a n.0 e n.1 n.2 (served_of o e h)) [
      | inl over ↦ inr (zero_step o e a h (still_o was).0 was (tail_over o a over))
      | inr goes ↦ inl goes
    ]
    | inr none ↦ inr (zero_step o e a h (still_o was).0 was none)
  ]
]

leave_no : (x : Option Context) (a : ℕ) → in_tail (behind_leave x) a ≡ true → ⊥
leave_no None a h = cc
leave_no (Some Free) a h = cc
leave_no (Some (Open None handler enter call)) a h = cc
leave_no (Some (Open (Some b) handler enter call)) a h = cc

pub finished_now : (o n : Owner) (log : List Entry) (a : ℕ) → Legal o log n → IsStill o a → IsFinished o a → IsFinished n a
finished_now o n log a (Ends m) still_o finished = finished
finished_now o n log a (Goes m l e rest h more) still_o finished = finished_now (after o e) n rest a more (still_after o e a h still_o) (finished_after o e a h still_o finished)
finished_now o n log a (Registers m l rest c p more) still_o finished = finished_now _ n log a more still_o finished
finished_now o n log a (Breaches m l c eax rest h more) still_o finished = finished_now _ n rest a more (λ st. ((still_o st).0, refl)) (breached o finished (served_of o _ h))
  where
    breached : (o : Owner) → IsFinished o a → is_served o (Leave c eax) ≡ true → phase_is is_stopped o a ≡ true → (false ≡ true) ⊎ (left_over o a ≡ 0)
    breached o finished served st = elim (finished st) [
      | inl tailing ↦ let n = tail_next o.next a tailing in elim (tail_goes o a n.0 (Leave c eax) n.1 n.2 served) [
        | inl over ↦ inr (tail_over o a over)
        | inr goes ↦ absurd (leave_no (slice_get o.contexts c.0) a goes)
      ]
      | inr none ↦ inr none
    ]
