-- What the owner machine asks for can be served, but for a question that is handed and a reset that is entered.
use Rattle.std.proofs.Common.{◌≡◌, ℕ, suc, ◌+◌, Bool, true, false, cond, ◌&&◌, ◌||◌, ◌==◌, not, List, [], ◌∷◌, ◌++◌, length, refl, sym, ap, ◌∙◌, subst, Option, Some, None, inl, inr, arith}
use Rattle.std.specs.Prelude.{⊤, nat_lt, count_by, slice_get}
use Rattle.std.specs.List.{position, position_or_len}
use Rattle.std.specs.Option.{option_map, option_map_or, option_or}
use Rattle.std.proofs.lemmas.Bool.{eqb-true, eq-eqb}
use Rattle.std.proofs.lemmas.Bool.Decides.{nat_tests}
use Rattle.std.proofs.lemmas.List.Sums.{sum_by-append}
use Rattle.std.proofs.lemmas.List.Quantifiers.{position-Some}
use Rattle.std.proofs.lemmas.Option.{slice_get-get_or}
use Rattle.nd_base.specs.declared.numbers.AdapterNo.{AdapterNo}
use Rattle.nd_base.specs.declared.numbers.CtxNo.{CtxNo}
use Rattle.nd_base.specs.declared.numbers.Phase.{Phase}
use Rattle.nd_base.specs.declared.numbers.Phase.TheVariants as phases
use Rattle.log_fields.specs.declared.write.Write.{Write}
use Rattle.log_fields.specs.declared.field_values.Handler.{Handler}
use Rattle.log_fields.specs.declared.field_values.Handler.TheVariants as handler
use Rattle.log_fields.specs.declared.field_values.Question.{Question}
use Rattle.log_fields.specs.declared.field_values.Question.TheVariants as question
use Rattle.call_log.specs.declared.entry.Entry.{Entry}
use Rattle.call_log.specs.declared.entry.Entry.TheVariants as entries
use Rattle.owner_machine.specs.declared.rows.Packet.{Packet}
use Rattle.owner_machine.specs.declared.rows.Loan.{Loan}
use Rattle.owner_machine.specs.declared.rows.Request.{Request}
use Rattle.owner_machine.specs.declared.rows.Next.{Next}
use Rattle.owner_machine.specs.declared.rows.Next.TheVariants as nexts
use Rattle.owner_machine.specs.State.{Owner, at, is_number, failure, pending, request_aborted, reset_in_progress, closing, invalid_length, invalid_data}
use Rattle.owner_machine.specs.Contexts.{is_reset}
use Rattle.owner_machine.specs.Packets.{is_refused, is_ending, may_end, out_of, held_of, queued_of, queued_with_id, packet_adapter, first_queued, hands}
use Rattle.owner_machine.specs.Loans.{away_of, due_of, may_go_home}
use Rattle.owner_machine.specs.Requests.{asked_of, handed_of, hands_ask, first_asked, request_adapter, open_of, is_turned_away, refused_with, refusal, wrong, phase_of, may_end_ask, by_verdict, by_call, by_stop, has_length, has_data}
use Rattle.owner_machine.specs.Must.{Due, Completes, BacksFailed, Answers, Hands, BacksDue, HandsAsk, EntersReset, owner_must, must_behind, refused_packet, send_refusal, refused_ask, first_due, tail, serves, is_served, may_break_in}
use Rattle.owner_machine.specs.Laws.{number}
use Rattle.owner_machine.specs.Machine.{rule_against, has_case, last_rule, rule_of}
use Rattle.legal_run.specs.State.{Inputs, State, alive}
use Rattle.legal_run.specs.Owed.{to_hand, request_at, hands_set, owed_row, running}
use Rattle.legal_run.specs.After.{after}
use Rattle.legal_run.specs.Must.{Due as RunDue, Owes, Serves, must, is_carried}
use Rattle.legal_run.specs.EntryLaws.{IsPlain, GoesOn, IsCalledFor, is_ask}
use Rattle.legal_run.proofs.Between.{true_both}
use Rattle.legal_run.proofs.Named.{owed_by_owner}
use Rattle.legal_run.specs.Run.{Run, now}
use Rattle.legal_run.proofs.Carried.{enters}
use Rattle.legal_run.proofs.Runs.{due_meets, next}

-- ---- rows

-- the first row that passes passes
passes : {A : Type 0} (test : A → Bool) (rows : List A) (k : ℕ) → position test rows ≡ Some k → at test rows k ≡ true
passes test [] k found = absurd (cc)
passes test (x ∷ xs) k found = let h = position-Some test (x ∷ xs) k x found in ap (λ o. option_map_or test o false) (slice_get-get_or (x ∷ xs) k x h.0) ∙ h.1

passes_more : {A : Type 0} (test more : A → Bool) (rows : List A) (k : ℕ) → ((x : A) → test x ≡ true → more x ≡ true) → at test rows k ≡ true → at more rows k ≡ true
passes_more test more rows k h is = row (slice_get rows k) is
  where
    row : (o : Option _) → option_map_or test o false ≡ true → option_map_or more o false ≡ true
    row None is = absurd (cc)
    row (Some x) is = h x is

first_or : (a b : Bool) → a ≡ true → (a || b) ≡ true
first_or true b h = refl
first_or false b h = absurd (cc)

second_or : (a b : Bool) → b ≡ true → (a || b) ≡ true
second_or true b h = refl
second_or false b h = h

same_number : (n : ℕ) → (n == n) ≡ true
same_number n = eq-eqb n n refl

-- ---- what serves what is due

record IsServed (o : Owner) (d : Due) : Type 0 where
  pub entry : Entry
  pub serves : serves o d entry ≡ true
  pub case : rule_against o entry ≡ None
  pub carried : (c : Inputs) (s : State) → is_carried c s entry ≡ true

ruled : (b d : Bool) (l r : Option ℕ) → b ≡ true → d ≡ true → l ≡ None → cond (b && d) l r ≡ None
ruled true true l r one two three = three
ruled true false l r one two three = absurd (cc)
ruled false d l r one two three = absurd (cc)

pub taken : (o : Owner) (d : Due) (e : Entry) → owner_must o ≡ Some d → serves o d e ≡ true → has_case o e ≡ true → last_rule o e ≡ None → rule_against o e ≡ None
taken o d e is served case last =
    let asked : is_served o e ≡ (serves o d e || may_break_in o.next e) = ap (λ m. option_map_or (λ due. serves o due e || may_break_in o.next e) m true) is in
    ruled (is_served o e) (has_case o e) (last_rule o e) (Some (rule_of e)) (asked ∙ first_or (serves o d e) _ served) case last

ends : (status : ℕ) → (status == pending) ≡ false → (Rattle.owner_machine.specs.Machine.ends_with status) ≡ None
ends status h = rw h refl

completes : (o : Owner) (fresh : Bool) (k status : ℕ) → owner_must o ≡ Some (Completes fresh k status) → at (may_end o k) o.packets k ≡ true → (status == pending) ≡ false
    → IsServed o (Completes fresh k status)
completes o fresh k status is may not_pending =
    let e : Entry = entries.Complete (record { 0 = k }) (record { 0 = status }) in
    let served : serves o (Completes fresh k status) e ≡ true = rw (same_number k) (same_number status) in
    record { entry = e; serves = served; case = taken o (Completes fresh k status) e is served may (ends status not_pending); carried = λ c s. refl }

backs : (o : Owner) (j : ℕ) → owner_must o ≡ Some (BacksFailed j) → at (may_go_home o.next true) o.loans j ≡ true → IsServed o (BacksFailed j)
backs o j is may =
    let e : Entry = entries.Back (record { 0 = j }) true in
    let served : serves o (BacksFailed j) e ≡ true = same_number j in
    record { entry = e; serves = served; case = taken o (BacksFailed j) e is served may refl; carried = λ c s. refl }

answers : (o : Owner) (r status : ℕ) → owner_must o ≡ Some (Answers r status) → at (may_end_ask o) o.requests r ≡ true → (status == pending) ≡ false → IsServed o (Answers r status)
answers o r status is may not_pending =
    let e : Entry = entries.Answer (record { 0 = r }) (record { 0 = status }) [] in
    let served : serves o (Answers r status) e ≡ true = rw (same_number r) (rw (same_number status) refl) in
    record { entry = e; serves = served; case = taken o (Answers r status) e is served may (ends status not_pending); carried = λ c s. refl }

-- ---- by what stood before: refusals

taken_if : (b : Bool) (x d : Due) → cond b (Some x) None ≡ Some d → (b ≡ true) × (x ≡ d)
taken_if true x d h = (refl, cc)
taken_if false x d h = absurd (cc)

refusal_ends : (b : Bool) → (cond b reset_in_progress closing == pending) ≡ false
refusal_ends true = refl
refusal_ends false = refl

refused : (o : Owner) (fresh : Bool) (k : ℕ) (d : Due) → owner_must o ≡ Some d → refused_packet o fresh k ≡ Some d → IsServed o d
refused o fresh k d is due =
    let both = taken_if (at (λ p. is_refused p.place) o.packets k) (Completes fresh k (send_refusal o (packet_adapter o k))) d due in
    let may = passes_more (λ p. is_refused p.place) (may_end o k) o.packets k (λ p h. second_or (is_ending o.next p) _ (first_or (is_refused p.place) _ h)) both.0 in
    subst (IsServed o) both.1 (completes o fresh k (send_refusal o (packet_adapter o k)) (is ∙ ap Some (sym both.1)) may (refusal_ends _))

abbrev Ends : Option ℕ → Type 0
Ends None = ⊤
Ends (Some status) = (status == pending) ≡ false

choose_ends : (b : Bool) (x y : Option ℕ) → Ends x → Ends y → Ends (cond b x y)
choose_ends true x y one other = one
choose_ends false x y one other = other

wrong_ends : (q : Question) → Ends (wrong q)
wrong_ends (question.Query oid n) = choose_ends (Rattle.std.specs.Prelude.nat_le n 4096) None (Some invalid_length) tt refl
wrong_ends (question.Set oid bytes) =
    choose_ends (has_length oid (length bytes)) (cond (has_data oid bytes) None (Some invalid_data)) (Some invalid_length)
    (choose_ends (has_data oid bytes) None (Some invalid_data) tt refl) refl

turned_away_ends : (p : Option Phase) (q : Question) → Ends (refusal p q)
turned_away_ends (Some phases.Running) q = wrong_ends q
turned_away_ends (Some phases.Resetting) q = refl
turned_away_ends (Some _) q = refl
turned_away_ends None q = refl

refused_answer : (o : Owner) (r : ℕ) (d : Due) → owner_must o ≡ Some d → refused_ask o r ≡ Some d → IsServed o d
refused_answer o r d is due = row (slice_get o.requests r) refl due
  where
    away : (q : Request) → is_turned_away q.place ≡ true → may_end_ask o q ≡ true
    away q h = second_or (by_verdict o.next q) _ (second_or (by_call o q) _ (first_or (is_turned_away q.place) _ h))

    status : (q : Request) → slice_get o.requests r ≡ Some q → is_turned_away q.place ≡ true → (st : Option ℕ) → Ends st → option_map (λ s. Answers r s) st ≡ Some d → IsServed o d
    status q at_r turned None ends_well h = absurd (cc)
    status q at_r turned (Some st) ends_well h =
        let same : Answers r st ≡ d = cc in
        let may : at (may_end_ask o) o.requests r ≡ true = ap (λ m. option_map_or (may_end_ask o) m false) at_r ∙ away q turned in
        subst (IsServed o) same (answers o r st (is ∙ ap Some (sym same)) may ends_well)

    turned_one : (q : Request) → slice_get o.requests r ≡ Some q → (b : Bool) → is_turned_away q.place ≡ b
        → cond b (option_map (λ s. Answers r s) (refused_with o q.adapter.0 q.question)) None ≡ Some d → IsServed o d
    turned_one q at_r true turned h = status q at_r turned (refused_with o q.adapter.0 q.question) (turned_away_ends (phase_of o q.adapter.0) q.question) h
    turned_one q at_r false turned h = absurd (cc)

    row : (m : Option Request) → slice_get o.requests r ≡ m
        → option_map_or (λ q. cond (is_turned_away q.place) (option_map (λ s. Answers r s) (refused_with o q.adapter.0 q.question)) None) m None ≡ Some d → IsServed o d
    row None at_r h = absurd (cc)
    row (Some q) at_r h = turned_one q at_r (is_turned_away q.place) refl h

-- ---- tails, aborts, cancels

ended : (o : Owner) (k status : ℕ) (d : Due) (test : Packet → Bool) → owner_must o ≡ Some d → ((p : Packet) → test p ≡ true → is_ending o.next p ≡ true)
    → (status == pending) ≡ false → position test o.packets ≡ Some k → Completes false k status ≡ d → IsServed o d
ended o k status d test is ends_it not_pending found same =
    let may = passes_more test (may_end o k) o.packets k (λ p h. first_or (is_ending o.next p) _ (ends_it p h)) (passes test o.packets k found) in
    subst (IsServed o) same (completes o false k status (is ∙ ap Some (sym same)) may not_pending)

ended_first : (o : Owner) (status : ℕ) (d : Due) (test : Packet → Bool) → owner_must o ≡ Some d → ((p : Packet) → test p ≡ true → is_ending o.next p ≡ true)
    → (status == pending) ≡ false → option_map (λ k. Completes false k status) (position test o.packets) ≡ Some d → IsServed o d
ended_first o status d test is ends_it not_pending due = go (position test o.packets) refl due
  where
    go : (m : Option ℕ) → position test o.packets ≡ m → option_map (λ k. Completes false k status) m ≡ Some d → IsServed o d
    go None found h = absurd (cc)
    go (Some k) found h = let same : Completes false k status ≡ d = cc in ended o k status d test is ends_it not_pending found same

tail_served : (o : Owner) (a : ℕ) (d : Due) → owner_must o ≡ Some d → o.next ≡ nexts.Tail (record { 0 = a }) → tail o a ≡ Some d → IsServed o d
tail_served o a d is next due = go (position (out_of a) o.packets) (position (away_of a) o.loans) (position (open_of a) o.requests) refl refl refl due
  where
    packet_ends : (p : Packet) → out_of a p ≡ true → is_ending o.next p ≡ true
    packet_ends p h = subst (λ (n : Next). is_ending n p ≡ true) (sym next) h

    loan_ends : (l : Loan) → away_of a l ≡ true → may_go_home o.next true l ≡ true
    loan_ends l h = subst (λ (n : Next). may_go_home n true l ≡ true) (sym next) h

    ask_ends : (q : Request) → open_of a q ≡ true → may_end_ask o q ≡ true
    ask_ends q h = second_or (by_verdict o.next q) _ (second_or (by_call o q) _ (second_or (is_turned_away q.place) _ (subst (λ (n : Next). by_stop n q ≡ true) (sym next) h)))

    go : (x y z : Option ℕ) → position (out_of a) o.packets ≡ x → position (away_of a) o.loans ≡ y → position (open_of a) o.requests ≡ z
        → first_due (option_map (λ k. Completes false k failure) x) (first_due (option_map (λ j. BacksFailed j) y) (option_map (λ r. Answers r failure) z)) ≡ Some d → IsServed o d
    go (Some k) y z px py pz h = let same : Completes false k failure ≡ d = cc in ended o k failure d (out_of a) is packet_ends refl px same
    go None (Some j) z px py pz h =
        let same : BacksFailed j ≡ d = cc in
        let may = passes_more (away_of a) (may_go_home o.next true) o.loans j loan_ends (passes (away_of a) o.loans j py) in
        subst (IsServed o) same (backs o j (is ∙ ap Some (sym same)) may)
    go None None (Some r) px py pz h =
        let same : Answers r failure ≡ d = cc in
        let may = passes_more (open_of a) (may_end_ask o) o.requests r ask_ends (passes (open_of a) o.requests r pz) in
        subst (IsServed o) same (answers o r failure (is ∙ ap Some (sym same)) may refl)
    go None None None px py pz h = absurd (cc)

-- ---- what a handler was entered for

count_cons : {A : Type 0} (p : A → Bool) (x : A) (rows : List A) → count_by p (x ∷ rows) ≡ number (p x) + count_by p rows
count_cons p x rows = let parts = sum_by-append (λ y. cond (p y) 1 0) (x ∷ []) rows in omega (arith, parts)

past_first : (p : Bool) (n m : ℕ) → nat_lt (cond (not p) (1 + n) 0) (suc m) ≡ false → (p ≡ false) × (nat_lt n m ≡ false)
past_first true n m h = absurd (zero_below m h)
  where
    zero_below : (m : ℕ) → nat_lt 0 (suc m) ≡ false → ⊥
    zero_below m h = grind (arith, nat_tests)
past_first false n m h = (refl, grind (arith, nat_tests))

none_before : {A : Type 0} (p : A → Bool) (rows : List A) → nat_lt (position_or_len p rows) (length rows) ≡ false → count_by p rows ≡ 0
none_before p [] h = refl
none_before p (x ∷ rows) h =
    let here = past_first (p x) (position_or_len p rows) (length rows) h in
    let more = none_before p rows here.1 in
    let e = ap number here.0 in
    omega (arith, more, e, count_cons p x rows)

none_where_none : {A : Type 0} (p : A → Bool) (rows : List A) → position p rows ≡ None → (count_by p rows == 0) ≡ true
none_where_none p rows h = eq-eqb (count_by p rows) 0 (none_before p rows (never (nat_lt (position_or_len p rows) (length rows)) (position_or_len p rows) h))
  where
    never : (b : Bool) (n : ℕ) → cond b (Some n) None ≡ None → b ≡ false
    never true n h = absurd (cc)
    never false n h = refl

queued_there : (o : Owner) (a k : ℕ) → position (queued_of a) o.packets ≡ Some k → packet_adapter o k ≡ a
queued_there o a k found = row (slice_get o.packets k) (passes (queued_of a) o.packets k found)
  where
    row : (m : Option Packet) → option_map_or (queued_of a) m false ≡ true → option_map_or (λ p. p.adapter.0) m Rattle.owner_machine.specs.State.no_adapter ≡ a
    row None h = absurd (cc)
    row (Some p) h = eqb-true p.adapter.0 a (true_both _ (p.adapter.0 == a) h).1

handed : (o : Owner) (a enter left k : ℕ) (d : Due) → owner_must o ≡ Some d → o.next ≡ nexts.Handing (record { 0 = a }) enter left → nat_lt 0 left ≡ true
    → position (queued_of a) o.packets ≡ Some k → Hands k ≡ d → IsServed o d
handed o a enter left k d is next some found same =
    let there = queued_there o a k found in
    let e : Entry = entries.Hand (record { 0 = k }) in
    let served : serves o (Hands k) e ≡ true = same_number k in
    let hands_it : hands o.next a ≡ true = subst (λ (n : Next). hands n a ≡ true) (sym next) (rw (same_number a) some) in
    let first : is_number (first_queued o a) k ≡ true = subst (λ (m : Option ℕ). is_number m k ≡ true) (sym found) (same_number k) in
    let case : has_case o e ≡ true = subst (λ (b : ℕ). (hands o.next b && is_number (first_queued o b) k) ≡ true) (sym there) (rw hands_it first) in
    subst (IsServed o) same (record { entry = e; serves = served; case = taken o (Hands k) e (is ∙ ap Some (sym same)) served case refl; carried = λ c s. refl })

handed_next : (o : Owner) (a enter left : ℕ) (d : Due) → owner_must o ≡ Some d → o.next ≡ nexts.Handing (record { 0 = a }) enter left
    → cond (nat_lt 0 left) (option_map (λ k. Hands k) (first_queued o a)) None ≡ Some d → IsServed o d
handed_next o a enter left d is next due = go (nat_lt 0 left) refl (first_queued o a) refl due
  where
    go : (b : Bool) → nat_lt 0 left ≡ b → (m : Option ℕ) → first_queued o a ≡ m → cond b (option_map (λ k. Hands k) m) None ≡ Some d → IsServed o d
    go true some None found h = absurd (cc)
    go true some (Some k) found h = let same : Hands k ≡ d = cc in handed o a enter left k d is next some found same
    go false some m found h = absurd (cc)

home : (o : Owner) (a : ℕ) (d : Due) → owner_must o ≡ Some d → o.next ≡ nexts.GoingHome (record { 0 = a }) → cond (count_by (due_of a) o.loans == 0) None (Some (BacksDue a)) ≡ Some d → IsServed o d
home o a d is next due = by_count (count_by (due_of a) o.loans == 0) refl due
  where
    by_first : (m : Option ℕ) → position (due_of a) o.loans ≡ m → (count_by (due_of a) o.loans == 0) ≡ false → BacksDue a ≡ d → IsServed o d
    by_first None found some same = let none = none_where_none (due_of a) o.loans found in absurd (cc)
    by_first (Some j) found some same =
        let due_there = passes (due_of a) o.loans j found in
        let e : Entry = entries.Back (record { 0 = j }) false in
        let served : serves o (BacksDue a) e ≡ true = due_there in
        let may = passes_more (due_of a) (may_go_home o.next false) o.loans j (λ l h. subst (λ (n : Next). may_go_home n false l ≡ true) (sym next) h) due_there in
        subst (IsServed o) same (record { entry = e; serves = served; case = taken o (BacksDue a) e (is ∙ ap Some (sym same)) served may refl; carried = λ c s. refl })

    by_count : (b : Bool) → (count_by (due_of a) o.loans == 0) ≡ b → cond b None (Some (BacksDue a)) ≡ Some d → IsServed o d
    by_count true some h = absurd (cc)
    by_count false some h = let same : BacksDue a ≡ d = cc in by_first (position (due_of a) o.loans) refl some same

-- ---- each of them

no_ask : (m : Option ℕ) (d : Due) → option_map (λ r. HandsAsk r) m ≡ Some d → IsPlain d → ⊥
no_ask None d h plain = absurd (cc)
no_ask (Some r) d h plain = let same : HandsAsk r ≡ d = cc in subst IsPlain (sym same) plain

by_next : (o : Owner) (n : Next) (d : Due) → owner_must o ≡ Some d → o.next ≡ n → must_behind o n ≡ Some d → IsPlain d → IsServed o d
by_next o (nexts.Sent packet) d is next due plain = refused o true packet.0 d is due
by_next o (nexts.Tagged packet) d is next due plain = refused o false packet.0 d is due
by_next o (nexts.Asked request) d is next due plain = refused_answer o request.0 d is due
by_next o (nexts.Tail adapter) d is next due plain = tail_served o adapter.0 d is next due
by_next o (nexts.Aborting adapter) d is next due plain =
    ended_first o request_aborted d (held_of adapter.0) is (λ p h. subst (λ (n : Next). is_ending n p ≡ true) (sym next) h) refl due
by_next o (nexts.Cancelling driver id) d is next due plain =
    ended_first o request_aborted d (queued_with_id driver.0 id) is (λ p h. subst (λ (n : Next). is_ending n p ≡ true) (sym next) h) refl due
by_next o (nexts.Handing adapter enter left) d is next due plain = handed_next o adapter.0 enter left d is next due
by_next o (nexts.GoingHome adapter) d is next due plain = home o adapter.0 d is next due
by_next o (nexts.HandingAsk adapter enter) d is next due plain = absurd (no_ask _ d due plain)
by_next o (nexts.Resetting adapter) d is next due plain = let same : EntersReset adapter.0 ≡ d = cc in absurd (subst IsPlain (sym same) plain)
by_next o nexts.Free d is next due plain = absurd (cc)
by_next o (nexts.Left adapter handler enter from) d is next due plain = absurd (cc)

-- what serves the duty, where the owner machine has a case for it
pub goes_by : (c : Inputs) (s : State) (due : RunDue) (e : Entry) → must s ≡ Some due → Serves c s due e → rule_against s.owner e ≡ None → GoesOn c s
goes_by c s due e is serves case = record { entry = e; meets = due_meets c s due e is serves case; asked = record { due = due; must = is; serves = serves } }

pub duties : (c : Inputs) (s : State) (d : Due) → must s ≡ Some (Owes d) → IsPlain d → GoesOn c s
duties c s d is plain =
    let owed = owed_by_owner s d is in
    let served = by_next s.owner s.owner.next d owed refl owed plain in
    goes_by c s (Owes d) served.entry is (rw served.serves (served.carried c s)) served.case

-- ---- a question is handed behind the enter of its handler

asked_there : (o : Owner) (a r : ℕ) → first_asked o a ≡ Some r → request_adapter o r ≡ a
asked_there o a r found = row (slice_get o.requests r) (passes (asked_of a) o.requests r found)
  where
    row : (m : Option Request) → option_map_or (asked_of a) m false ≡ true → option_map_or (λ q. q.adapter.0) m Rattle.owner_machine.specs.State.no_adapter ≡ a
    row None h = absurd (cc)
    row (Some q) h = eqb-true q.adapter.0 a (true_both _ (q.adapter.0 == a) h).1

ask_served : (o : Owner) (a enter r : ℕ) → o.next ≡ nexts.HandingAsk (record { 0 = a }) enter → first_asked o a ≡ Some r → (count_by (handed_of a) o.requests == 0) ≡ true
    → IsServed o (HandsAsk r)
ask_served o a enter r next found none =
    let there = asked_there o a r found in
    let is : owner_must o ≡ Some (HandsAsk r) = subst (λ (n : Next). must_behind o n ≡ Some (HandsAsk r)) (sym next) (ap (λ m. option_map (λ k. HandsAsk k) m) found) in
    let e : Entry = entries.HandAsk (record { 0 = r }) in
    let served : serves o (HandsAsk r) e ≡ true = same_number r in
    let hands_it : hands_ask o.next a ≡ true = subst (λ (n : Next). hands_ask n a ≡ true) (sym next) (same_number a) in
    let first : is_number (first_asked o a) r ≡ true = subst (λ (m : Option ℕ). is_number m r ≡ true) (sym found) (same_number r) in
    let case : has_case o e ≡ true =
    subst (λ (b : ℕ). (hands_ask o.next b && (is_number (first_asked o b) r && (count_by (handed_of b) o.requests == 0))) ≡ true) (sym there)
    (rw hands_it (rw first none)) in
    record { entry = e; serves = served; case = taken o (HandsAsk r) e is served case refl; carried = λ c s. refl }

-- what to_hand finds
record FindsAsk (s : State) (a : ℕ) : Type 0 where
  pub r : ℕ
  pub first : first_asked s.owner a ≡ Some r
  pub none : (count_by (handed_of a) s.owner.requests == 0) ≡ true

found_ask : (s : State) (a : ℕ) (set : Bool) → hands_set set (to_hand s a) ≡ true → FindsAsk s a
found_ask s a set h = by_count (count_by (handed_of a) s.owner.requests == 0) refl h
  where
    nothing : (set : Bool) → hands_set set None ≡ true → ⊥
    nothing true h = absurd (cc)
    nothing false h = absurd (cc)

    by_first : (m : Option ℕ) → first_asked s.owner a ≡ m → (count_by (handed_of a) s.owner.requests == 0) ≡ true → hands_set set (request_at s m) ≡ true → FindsAsk s a
    by_first None found none h = absurd (nothing set h)
    by_first (Some r) found none h = record { r = r; first = found; none = none }

    by_count : (b : Bool) → (count_by (handed_of a) s.owner.requests == 0) ≡ b → hands_set set (cond b (request_at s (first_asked s.owner a)) None) ≡ true → FindsAsk s a
    by_count true none h = by_first (first_asked s.owner a) refl none h
    by_count false none h = absurd (nothing set h)

owed_ask : (c : Inputs) (s : State) (a : ℕ) (h : Handler) → is_ask h ≡ true → IsCalledFor c s a h → FindsAsk s a
owed_ask c s a handler.Query ask called = elim called [
  | inl owed ↦ found_ask s a false (true_both (running s a) _ (true_both (owed_row c s a handler.Query) _ (true_both (alive s a) _ owed).1).0).1
  | inr reset ↦ let not_reset : is_reset handler.Query ≡ true = reset.1 in absurd (cc)
]
owed_ask c s a handler.Set ask called = elim called [
  | inl owed ↦ found_ask s a true (true_both (running s a) _ (true_both (owed_row c s a handler.Set) _ (true_both (alive s a) _ owed).1).0).1
  | inr reset ↦ let not_reset : is_reset handler.Set ≡ true = reset.1 in absurd (cc)
]
owed_ask c s a _ ask called = absurd (cc)

must_ask : (c : Inputs) (s : State) (a : AdapterNo) (x : CtxNo) (h : Handler) (words : List ℕ) (writes : List Write) → is_ask h ≡ true
    → must (after c s (entries.Enter (Some a) x h words writes)) ≡ option_or (option_map Owes (option_map (λ r. HandsAsk r) (first_asked s.owner a.0))) None
unfolding must
must_ask c s a x handler.Query words writes ask = refl
must_ask c s a x handler.Set words writes ask = refl
must_ask c s a x _ words writes ask = absurd (cc)

next_ask : (c : Inputs) (s : State) (a : AdapterNo) (x : CtxNo) (h : Handler) (words : List ℕ) (writes : List Write) → is_ask h ≡ true
    → (after c s (entries.Enter (Some a) x h words writes)).owner.next ≡ nexts.HandingAsk a s.owner.enters
next_ask c s a x handler.Query words writes ask = refl
next_ask c s a x handler.Set words writes ask = refl
next_ask c s a x _ words writes ask = absurd (cc)

pub asks_go_on : (c : Inputs) (log : List Entry) (a : AdapterNo) (x : CtxNo) (h : Handler) (words : List ℕ) (writes : List Write) → is_ask h ≡ true
    → Run c (log ++ entries.Enter (Some a) x h words writes ∷ []) → GoesOn c (now c (log ++ entries.Enter (Some a) x h words writes ∷ []))
asks_go_on c log a x h words writes ask run =
    let s : State = now c log in
    let e : Entry = entries.Enter (Some a) x h words writes in
    let t : State = after c s e in
    let finds = owed_ask c s a.0 h ask (enters c log a x h words writes run).owed in
    let served = ask_served t.owner a.0 s.owner.enters finds.r (next_ask c s a x h words writes ask) finds.first finds.none in
    let is : must t ≡ Some (Owes (HandsAsk finds.r)) =
    must_ask c s a x h words writes ask ∙ ap (λ m. option_or (option_map Owes (option_map (λ r. HandsAsk r) m)) None) finds.first in
    let goes : GoesOn c t = goes_by c t (Owes (HandsAsk finds.r)) served.entry is (rw served.serves (served.carried c t)) served.case in
    subst (GoesOn c) (sym (next c log e)) goes
