-- One entry of the tail of a stop, and entries in a row.
use Rattle.std.proofs.Common.{◌≡◌, ◌≢◌, ℕ, zero, suc, ◌+◌, ◌≤◌, ◌<◌, Bool, true, false, ◌&&◌, ◌||◌, ◌==◌, cond, List, [], ◌∷◌, ◌++◌, Option, Some, None, refl, sym, ap, ◌∙◌, subst, arith, append_assoc}
use Rattle.std.specs.Prelude.{count_by, slice_get, sum_by}
use Rattle.std.specs.List.{list_any, position}
use Rattle.std.specs.Option.{option_map, option_map_or, option_or}
use Rattle.std.proofs.lemmas.Option.{slice_get-get_or}
use Rattle.std.proofs.lemmas.List.Sums.{sum_by-append}
use Rattle.std.proofs.lemmas.List.Folds.{list_any-append}
use Rattle.std.proofs.lemmas.List.Quantifiers.{position-Some}
use Rattle.nd_base.specs.declared.numbers.AdapterNo.{AdapterNo}
use Rattle.log_fields.specs.declared.field_values.Cause.{Cause}
use Rattle.log_fields.specs.declared.field_values.Question.TheVariants as questions
use Rattle.call_log.specs.declared.entry.Entry.{Entry}
use Rattle.call_log.specs.declared.entry.Entry.TheVariants as entries
use Rattle.owner_machine.specs.declared.rows.Packet.{Packet}
use Rattle.owner_machine.specs.declared.rows.Place.TheVariants as places
use Rattle.owner_machine.specs.declared.rows.Loan.{Loan}
use Rattle.owner_machine.specs.declared.rows.LoanPlace.TheVariants as loan_places
use Rattle.owner_machine.specs.declared.rows.Request.{Request}
use Rattle.owner_machine.specs.declared.rows.RequestPlace.TheVariants as request_places
use Rattle.owner_machine.specs.declared.rows.Next.{Next as OwnerNext}
use Rattle.owner_machine.specs.declared.rows.Next.TheVariants as nexts
use Rattle.owner_machine.specs.declared.rows.Next.TheVariants.{Tail}
use Rattle.owner_machine.specs.State.{Owner, at, change, failure}
use Rattle.owner_machine.specs.Adapters.{stopped}
use Rattle.owner_machine.specs.Packets.{out_of, is_out, completed, has_verdict, is_ending, behind_verdict, behind_complete}
use Rattle.owner_machine.specs.Loans.{away_of, is_away, gone_home, behind_back}
use Rattle.owner_machine.specs.Requests.{open_of, is_open, answered, behind_answer}
use Rattle.owner_machine.specs.Handlers.{outstanding, is_none}
use Rattle.owner_machine.specs.Laws.{StopLaws}
use Rattle.owner_machine.specs.Machine.{after as owners_after}
use Rattle.owner_machine.specs.Must.{Completes, BacksFailed, Answers, first_due, owner_must, must_behind, serves, tail}
use Rattle.owner_machine.specs.Must as owners
use Rattle.legal_run.specs.State.{Inputs, State, Next, Stops}
use Rattle.legal_run.specs.After.{after, popped, stops_behind}
use Rattle.legal_run.specs.EntryLaws.{DutyLaws, GoesOn}
use Rattle.legal_run.specs.Must.{Due, Owes, Exactly, ReplyOf, Serves, must, next_must, taken_first}
use Rattle.legal_run.specs.Run.{Meets, is_memory_stop, is_stops}
use Rattle.run_moves.specs.Runs.{Grows, IsRun}
use Rattle.run_moves.specs.declared.running.Running.{Running}
use Rattle.run_stops.specs.Standing.{Adds, point_of, state_of}
use Rattle.run_stops.specs.Stopping.{EndsOne, IsOfTail, IsTailing, StopsWhole, failed_answer, is_of_tail, owner_of}

-- ---- a move, by the log

pub adds : (c : Inputs) (e : Entry) (before r : Running) → Grows (point_of c before) e before r → Adds c e before r
adds c e before r grown =
    let state : state_of c r ≡ after c (state_of c before) e = grown.run.reaches.state in
    record {
      runs = subst (λ (s : State). IsRun (record { inputs = c; state = s }) r) (sym state) grown.run;
      state = state;
      written = grown.written;
      spare = grown.spare;
    }

-- ---- what must stand in a tail

is_owed : (a b : owners.Due) → Some (Owes a) ≡ Some (Owes b) → a ≡ b
is_owed a b h = by (Some (Owes b)) h
  where
    due_in : owners.Due → Option Due → owners.Due
    due_in other (Some (Owes d)) = d
    due_in other _ = other

    by : (o : Option Due) → Some (Owes a) ≡ o → a ≡ due_in a o
    by o same = ap (due_in a) same

pub must_in_tail : (s : State) (a : AdapterNo) (due : owners.Due) → is_stops s.next ≡ true → s.owner.next ≡ Tail a → tail s.owner a.0 ≡ Some due → must s ≡ Some (Owes due)
unfolding must
must_in_tail s a due stops behind is =
    ap (λ (t : Option Due). option_or t (option_or (option_map Owes (owner_must s.owner)) (next_must s.next))) (no_taken s.next stops)
    ∙ ap (λ (t : Option owners.Due). option_or (option_map Owes t) (next_must s.next)) (ap (must_behind s.owner) behind ∙ is)
  where
    no_taken : (n : Next) → is_stops n ≡ true → taken_first n ≡ None
    no_taken (Stops cause ats) h = refl
    no_taken _ h = absurd (cc)

and_first : (a b : Bool) → a && b ≡ true → a ≡ true
and_first true b h = refl
and_first false b h = h

and_second : (a b : Bool) → a && b ≡ true → b ≡ true
and_second true b h = h
and_second false b h = absurd (cc)

equal : (m n : ℕ) → (m == n) ≡ true → m ≡ n
equal m n h = grind (arith, h)

-- the one entry that serves a completion, a loan that goes back as failed, an answer without bytes
completion : (o : Owner) (k status : ℕ) (e : Entry) → serves o (Completes false k status) e ≡ true → e ≡ entries.Complete (record { 0 = k }) (record { 0 = status })
completion o k status (entries.Complete packet other) h =
    let one : packet.0 ≡ k = equal packet.0 k (and_first (packet.0 == k) (other.0 == status) h) in
    let two : other.0 ≡ status = equal other.0 status (and_second (packet.0 == k) (other.0 == status) h) in
    ap (λ (n : ℕ). entries.Complete (record { 0 = n }) other) one ∙ ap (λ (n : ℕ). entries.Complete (record { 0 = k }) (record { 0 = n })) two
completion o k status _ h = absurd (cc)

failed_loan : (o : Owner) (j : ℕ) (e : Entry) → serves o (BacksFailed j) e ≡ true → e ≡ entries.Back (record { 0 = j }) true
failed_loan o j (entries.Back loan failed) h =
    let one : loan.0 ≡ j = equal loan.0 j (and_second failed (loan.0 == j) h) in
    ap (λ (n : ℕ). entries.Back (record { 0 = n }) failed) one ∙ ap (entries.Back (record { 0 = j })) (and_first failed (loan.0 == j) h)
failed_loan o j _ h = absurd (cc)

empty : (bytes : List ℕ) → is_none bytes ≡ true → bytes ≡ []
empty [] h = refl
empty (b ∷ bytes) h = absurd (cc)

answering : (o : Owner) (r status : ℕ) (e : Entry) → serves o (Answers r status) e ≡ true → e ≡ entries.Answer (record { 0 = r }) (record { 0 = status }) []
answering o r status (entries.Answer request other bytes) h =
    let one : request.0 ≡ r = equal request.0 r (and_first (request.0 == r) ((other.0 == status) && is_none bytes) h) in
    let rest = and_second (request.0 == r) ((other.0 == status) && is_none bytes) h in
    let two : other.0 ≡ status = equal other.0 status (and_first (other.0 == status) (is_none bytes) rest) in
    ap (λ (n : ℕ). entries.Answer (record { 0 = n }) other bytes) one ∙ ap (λ (n : ℕ). entries.Answer (record { 0 = r }) (record { 0 = n }) bytes) two ∙ ap (entries.Answer (record { 0 = r }) (record { 0 = status })) (empty bytes (and_second (other.0 == status) (is_none bytes) rest))
answering o r status _ h = absurd (cc)

-- what serves a duty of the owner machine that one entry alone serves may stand
stands_by : (c : Inputs) (s : State) (d : owners.Due) (e : Entry) → must s ≡ Some (Owes d) → ((f : Entry) → serves s.owner d f ≡ true → f ≡ e) → GoesOn c s → Meets c s e
stands_by c s d e is only on = subst (Meets c s) (only on.entry (by on.asked.due (sym on.asked.must ∙ is) on.asked.serves)) on.meets
  where
    by : (due : Due) → Some due ≡ Some (Owes d) → Serves c s due on.entry → serves s.owner d on.entry ≡ true
    by (Owes other) same h = ap (λ (x : owners.Due). serves s.owner x on.entry) (sym (is_owed other d same)) ∙ and_first _ _ h
    by (Exactly f) same h = absurd (cc)
    by (ReplyOf x) same h = absurd (cc)

pub completes_meets : DutyLaws → (c : Inputs) (s : State) (k status : ℕ) → must s ≡ Some (Owes (Completes false k status)) → Meets c s (entries.Complete (record { 0 = k }) (record { 0 = status }))
completes_meets laws c s k status is = stands_by c s (Completes false k status) _ is (completion s.owner k status) (laws.plain c s _ is tt)

pub back_meets : DutyLaws → (c : Inputs) (s : State) (j : ℕ) → must s ≡ Some (Owes (BacksFailed j)) → Meets c s (entries.Back (record { 0 = j }) true)
back_meets laws c s j is = stands_by c s (BacksFailed j) _ is (failed_loan s.owner j) (laws.plain c s _ is tt)

pub answer_meets : DutyLaws → (c : Inputs) (s : State) (r : ℕ) → must s ≡ Some (Owes (Answers r failure)) → Meets c s (failed_answer (record { 0 = r }))
answer_meets laws c s r is = stands_by c s (Answers r failure) _ is (answering s.owner r failure) (laws.plain c s _ is tt)

-- ---- rows

pub sum_cons : {A : Type 0} (f : A → ℕ) (x : A) (xs : List A) → sum_by f (x ∷ xs) ≡ f x + sum_by f xs
sum_cons f x xs = let parts = sum_by-append f (x ∷ []) xs in omega (arith, parts)

count_cons : {A : Type 0} (p : A → Bool) (x : A) (xs : List A) → count_by p (x ∷ xs) ≡ cond (p x) 1 0 + count_by p xs
count_cons p x xs = sum_cons (λ y. cond (p y) 1 0) x xs

-- a change of one row that passes a test as before leaves the count
pub changed_count : {A : Type 0} (p : A → Bool) (f : A → A) (rows : List A) (k : ℕ) → ((row : A) → slice_get rows k ≡ Some row → p (f row) ≡ p row) → count_by p (change f rows k) ≡ count_by p rows
changed_count p f [] k same = refl
changed_count p f (row ∷ rows) zero same = count_cons p (f row) rows ∙ ap (λ b. cond b 1 0 + count_by p rows) (same row refl) ∙ sym (count_cons p row rows)
changed_count p f (row ∷ rows) (suc k) same = count_cons p row (change f rows k) ∙ ap (λ n. cond (p row) 1 0 + n) (changed_count p f rows k same) ∙ sym (count_cons p row rows)

pub changed_at : {A : Type 0} (p : A → Bool) (f : A → A) (rows : List A) (k i : ℕ) → k ≢ i → at p (change f rows k) i ≡ at p rows i
changed_at p f [] k i other = refl
changed_at p f (row ∷ rows) zero zero other = absurd (other refl)
changed_at p f (row ∷ rows) zero (suc i) other = refl
changed_at p f (row ∷ rows) (suc k) zero other = refl
changed_at p f (row ∷ rows) (suc k) (suc i) other = changed_at p f rows k i (λ same. other (ap suc same))

-- the row of that number passes
row_passes : {A : Type 0} (test : A → Bool) (rows : List A) (k : ℕ) (row : A) → at test rows k ≡ true → slice_get rows k ≡ Some row → test row ≡ true
row_passes test rows k row h got = sym (ap (λ o. option_map_or test o false) got) ∙ h

-- the least row that passes passes
pub first_passes : {A : Type 0} (test : A → Bool) (rows : List A) (none : A) (k : ℕ) → position test rows ≡ Some k → at test rows k ≡ true
first_passes test rows none k found = let found_at = position-Some test rows k none found in ap (λ o. option_map_or test o false) (slice_get-get_or rows k none found_at.0) ∙ found_at.1

no_packet : Packet
no_packet = record { driver = record { 0 = 0 }; adapter = record { 0 = 0 }; place = places.Done; id = 0; hand = 0 }

no_loan : Loan
no_loan = record { adapter = record { 0 = 0 }; holders = []; place = loan_places.Home }

no_request : Request
no_request = record { driver = record { 0 = 0 }; adapter = record { 0 = 0 }; question = questions.Query 0 0; place = request_places.Answered; hand = 0 }

-- ---- what is outstanding of another adapter

another : (a b n : ℕ) (is : Bool) → b ≢ a → is && (n == a) ≡ true → (n == b) ≡ false
another a b n true other h = let same : n ≡ a = grind (arith, h) in by (n == b) refl same
  where
    by : (t : Bool) → (n == b) ≡ t → n ≡ a → t ≡ false
    by false is same = refl
    by true is same = let there : n ≡ b = grind (arith, is) in absurd (other (sym there ∙ same))
another a b n false other h = absurd (cc)

fails : (x y : Bool) → y ≡ false → x && y ≡ false
fails true y h = h
fails false y h = refl

pub packets_of_others : (o : Owner) (a b k : ℕ) (next : OwnerNext) → b ≢ a → at (out_of a) o.packets k ≡ true → count_by (out_of b) (change (completed next) o.packets k) ≡ count_by (out_of b) o.packets
packets_of_others o a b k next other is = changed_count (out_of b) (completed next) o.packets k (λ p got. let no = another a b p.adapter.0 (is_out p.place) other (row_passes (out_of a) o.packets k p is got) in fails (is_out (completed next p).place) _ no ∙ sym (fails (is_out p.place) _ no))

pub loans_of_others : (o : Owner) (a b j : ℕ) → b ≢ a → at (away_of a) o.loans j ≡ true → count_by (away_of b) (change gone_home o.loans j) ≡ count_by (away_of b) o.loans
loans_of_others o a b j other is = changed_count (away_of b) gone_home o.loans j (λ l got. let no = another a b l.adapter.0 (is_away l.place) other (row_passes (away_of a) o.loans j l is got) in sym (fails (is_away l.place) _ no))

pub requests_of_others : (o : Owner) (a b r : ℕ) → b ≢ a → at (open_of a) o.requests r ≡ true → count_by (open_of b) (change answered o.requests r) ≡ count_by (open_of b) o.requests
requests_of_others o a b r other is = changed_count (open_of b) answered o.requests r (λ q got. let no = another a b q.adapter.0 (is_open q.place) other (row_passes (open_of a) o.requests r q is got) in sym (fails (is_open q.place) _ no))

-- ---- the first of the tail

pub packet_first : (o : Owner) (a k : ℕ) → position (out_of a) o.packets ≡ Some k → tail o a ≡ Some (Completes false k failure)
packet_first o a k found = ap (λ (n : Option ℕ). first_due (option_map (λ k. Completes false k failure) n) (first_due (option_map (λ j. BacksFailed j) (position (away_of a) o.loans)) (option_map (λ r. Answers r failure) (position (open_of a) o.requests)))) found

pub loan_first : (o : Owner) (a j : ℕ) → position (out_of a) o.packets ≡ None → position (away_of a) o.loans ≡ Some j → tail o a ≡ Some (BacksFailed j)
loan_first o a j none found =
    ap (λ (n : Option ℕ). first_due (option_map (λ k. Completes false k failure) n) (first_due (option_map (λ j. BacksFailed j) (position (away_of a) o.loans)) (option_map (λ r. Answers r failure) (position (open_of a) o.requests)))) none
    ∙ ap (λ (n : Option ℕ). first_due (option_map (λ j. BacksFailed j) n) (option_map (λ r. Answers r failure) (position (open_of a) o.requests))) found

pub request_first : (o : Owner) (a : ℕ) (r : Option ℕ) → position (out_of a) o.packets ≡ None → position (away_of a) o.loans ≡ None → position (open_of a) o.requests ≡ r → tail o a ≡ option_map (λ r. Answers r failure) r
request_first o a r none nor found =
    ap (λ (n : Option ℕ). first_due (option_map (λ k. Completes false k failure) n) (first_due (option_map (λ j. BacksFailed j) (position (away_of a) o.loans)) (option_map (λ r. Answers r failure) (position (open_of a) o.requests)))) none
    ∙ ap (λ (n : Option ℕ). first_due (option_map (λ j. BacksFailed j) n) (option_map (λ r. Answers r failure) (position (open_of a) o.requests))) nor
    ∙ ap (λ (n : Option ℕ). option_map (λ r. Answers r failure) n) found

-- ---- one entry

same_number : (k : ℕ) → (k == k) ≡ true
same_number k = grind arith

serve_packet : (o : Owner) (k : ℕ) → serves o (Completes false k failure) (entries.Complete (record { 0 = k }) (record { 0 = failure })) ≡ true
serve_packet o k = ap (λ (t : Bool). t && (failure == failure)) (same_number k)

serve_loan : (o : Owner) (j : ℕ) → serves o (BacksFailed j) (entries.Back (record { 0 = j }) true) ≡ true
serve_loan o j = same_number j

serve_request : (o : Owner) (r : ℕ) → serves o (Answers r failure) (failed_answer (record { 0 = r })) ≡ true
serve_request o r = ap (λ (t : Bool). t && ((failure == failure) && true)) (same_number r)

stops_stay : (n : Next) → is_stops n ≡ true → popped n ≡ n
stops_stay (Stops cause ats) h = refl
stops_stay _ h = absurd (cc)

goes_on : (adapter : AdapterNo) (o : Owner) (k : ℕ) → o.next ≡ Tail adapter → at (out_of adapter.0) o.packets k ≡ true → behind_complete o k ≡ Tail adapter
goes_on adapter o k same is = ap (λ (n : OwnerNext). cond (at (λ p. has_verdict n k p || is_ending n p) o.packets k) (behind_verdict n k) nexts.Free) same ∙ ap (λ (t : Bool). cond t (Tail adapter) nexts.Free) is

-- what an entry has to be so that it ends one thing of a tail
record IsEnd (o : Owner) (a : AdapterNo) (e : Entry) : Type 0 where
  pub kind : is_of_tail e ≡ true
  pub due : owners.Due
  pub first : tail o a.0 ≡ Some due
  pub serves : serves o due e ≡ true
  pub behind : (owners_after o e).next ≡ Tail a
  pub rows : (owners_after o e).adapters ≡ o.adapters
  pub contexts : (owners_after o e).contexts ≡ o.contexts
  pub others : (b : ℕ) → b ≢ a.0 → outstanding (owners_after o e) b ≡ outstanding o b

packet_ends : (o : Owner) (a : AdapterNo) (k : ℕ) → o.next ≡ Tail a → position (out_of a.0) o.packets ≡ Some k → IsEnd o a (entries.Complete (record { 0 = k }) (record { 0 = failure }))
packet_ends o a k behind found =
    let is = first_passes (out_of a.0) o.packets no_packet k found in
    record {
      kind = refl;
      due = Completes false k failure;
      first = packet_first o a.0 k found;
      serves = serve_packet o k;
      behind = goes_on a o k behind is;
      rows = refl;
      contexts = refl;
      others = λ b other. ap (λ n. n + count_by (away_of b) o.loans + count_by (open_of b) o.requests) (packets_of_others o a.0 b k o.next other is);
    }

loan_ends : (o : Owner) (a : AdapterNo) (j : ℕ) → o.next ≡ Tail a → position (out_of a.0) o.packets ≡ None → position (away_of a.0) o.loans ≡ Some j → IsEnd o a (entries.Back (record { 0 = j }) true)
loan_ends o a j behind none found =
    let is = first_passes (away_of a.0) o.loans no_loan j found in
    record {
      kind = refl;
      due = BacksFailed j;
      first = loan_first o a.0 j none found;
      serves = serve_loan o j;
      behind = ap behind_back behind;
      rows = refl;
      contexts = refl;
      others = λ b other. ap (λ n. count_by (out_of b) o.packets + n + count_by (open_of b) o.requests) (loans_of_others o a.0 b j other is);
    }

request_ends : (o : Owner) (a : AdapterNo) (r : ℕ) → o.next ≡ Tail a → position (out_of a.0) o.packets ≡ None → position (away_of a.0) o.loans ≡ None → position (open_of a.0) o.requests ≡ Some r
    → IsEnd o a (failed_answer (record { 0 = r }))
request_ends o a r behind none nor found =
    let is = first_passes (open_of a.0) o.requests no_request r found in
    record {
      kind = refl;
      due = Answers r failure;
      first = request_first o a.0 (Some r) none nor found;
      serves = serve_request o r;
      behind = ap behind_answer behind;
      rows = refl;
      contexts = refl;
      others = λ b other. ap (λ n. count_by (out_of b) o.packets + count_by (away_of b) o.loans + n) (requests_of_others o a.0 b r other is);
    }

plain_kind : (e : Entry) → is_of_tail e ≡ true → is_memory_stop e ≡ false
plain_kind (entries.Stop a cause) h = absurd (cc)
plain_kind _ h = refl

ends_by : StopLaws → (c : Inputs) (a : AdapterNo) (e : Entry) (before r : Running) → IsTailing c a before → Adds c e before r → IsEnd (owner_of c before) a e
    → (after c (state_of c before) e).owner ≡ owners_after (owner_of c before) e → (after c (state_of c before) e).next ≡ popped (state_of c before).next → EndsOne c a before r
ends_by laws c a e before r tailing added end owner next =
    let owned : owner_of c r ≡ owners_after (owner_of c before) e = ap (λ (s : State). s.owner) added.state ∙ owner in
    let stays : (state_of c r).next ≡ (state_of c before).next = ap (λ (s : State). s.next) added.state ∙ next ∙ stops_stay _ tailing.stops in
    record {
      tailing = record {
        runs = added.runs;
        behind = ap (λ (o : Owner). o.next) owned ∙ end.behind;
        stops = ap is_stops stays ∙ tailing.stops;
      };
      falls = ap (λ (o : Owner). outstanding o a.0 + 1) owned ∙ laws.falls (owner_of c before) a.0 end.due e end.first end.serves;
      keeps = record {
        others = λ b other. ap (λ (o : Owner). outstanding o b) owned ∙ end.others b other;
        rows = ap (λ (o : Owner). o.adapters) owned ∙ end.rows;
        next = stays;
      };
      entry = e;
      plain = plain_kind e end.kind;
      written = added.written;
      spare = added.spare;
    }

pub ends_packet : StopLaws → (c : Inputs) (a : AdapterNo) (k : ℕ) (before r : Running) → IsTailing c a before → position (out_of a.0) (owner_of c before).packets ≡ Some k
    → Grows (point_of c before) (entries.Complete (record { 0 = k }) (record { 0 = failure })) before r → EndsOne c a before r
ends_packet laws c a k before r tailing found grown = ends_by laws c a _ before r tailing (adds c _ before r grown) (packet_ends (owner_of c before) a k tailing.behind found) refl refl

pub ends_loan : StopLaws → (c : Inputs) (a : AdapterNo) (j : ℕ) (before r : Running) → IsTailing c a before → position (out_of a.0) (owner_of c before).packets ≡ None
    → position (away_of a.0) (owner_of c before).loans ≡ Some j → Grows (point_of c before) (entries.Back (record { 0 = j }) true) before r → EndsOne c a before r
ends_loan laws c a j before r tailing none found grown = ends_by laws c a _ before r tailing (adds c _ before r grown) (loan_ends (owner_of c before) a j tailing.behind none found) refl refl

pub ends_request : StopLaws → (c : Inputs) (a : AdapterNo) (r : ℕ) (before after : Running) → IsTailing c a before → position (out_of a.0) (owner_of c before).packets ≡ None
    → position (away_of a.0) (owner_of c before).loans ≡ None → position (open_of a.0) (owner_of c before).requests ≡ Some r
    → Grows (point_of c before) (failed_answer (record { 0 = r })) before after → EndsOne c a before after
ends_request laws c a r before after tailing none nor found grown =
    ends_by laws c a _ before after tailing (adds c _ before after grown) (request_ends (owner_of c before) a r tailing.behind none nor found) refl refl

-- ---- every entry of a tail

-- what is first of the tail
data IsFirst (o : Owner) (a : ℕ) (due : owners.Due) : Type 0 where
  OfPackets : (k : ℕ) → position (out_of a) o.packets ≡ Some k → due ≡ Completes false k failure → IsFirst o a due
  OfLoans : (j : ℕ) → position (out_of a) o.packets ≡ None → position (away_of a) o.loans ≡ Some j → due ≡ BacksFailed j → IsFirst o a due
  OfRequests : (r : ℕ) → position (out_of a) o.packets ≡ None → position (away_of a) o.loans ≡ None → position (open_of a) o.requests ≡ Some r → due ≡ Answers r failure → IsFirst o a due

found_first : (o : Owner) (a : ℕ) (due : owners.Due) → tail o a ≡ Some due → IsFirst o a due
found_first o a due is = by (position (out_of a) o.packets) (position (away_of a) o.loans) (position (open_of a) o.requests) refl refl refl is
  where
    by : (p l q : Option ℕ) → position (out_of a) o.packets ≡ p → position (away_of a) o.loans ≡ l → position (open_of a) o.requests ≡ q
        → first_due (option_map (λ k. Completes false k failure) p) (first_due (option_map (λ j. BacksFailed j) l) (option_map (λ r. Answers r failure) q)) ≡ Some due → IsFirst o a due
    by (Some k) l q one two three h = OfPackets k one (cc)
    by None (Some j) q one two three h = OfLoans j one two (cc)
    by None None (Some r) one two three h = OfRequests r one two three (cc)
    by None None None one two three h = absurd (cc)

of_tail : (c : Inputs) (s : State) (a : AdapterNo) (e : Entry) → Meets c s e → IsEnd s.owner a e → is_stops s.next ≡ true → s.owner.next ≡ Tail a → (after c s e).owner ≡ owners_after s.owner e
    → (after c s e).next ≡ popped s.next → IsOfTail c s a.0 e
of_tail c s a e meets end stops behind owner next = record {
  meets = meets;
  kind = end.kind;
  owner = owner;
  next = next ∙ stops_stay s.next stops;
  behind = end.behind ∙ sym behind;
  rows = end.rows;
  contexts = end.contexts;
  others = end.others;
}

pub goes_on_by : DutyLaws → (c : Inputs) (s : State) (a : AdapterNo) (due : owners.Due) (e : Entry) → is_stops s.next ≡ true → s.owner.next ≡ Tail a → owner_must s.owner ≡ Some due → serves s.owner due e ≡ true
    → IsOfTail c s a.0 e
goes_on_by laws c s a due e stops behind is serve = by (found_first s.owner a.0 due first)
  where
    first : tail s.owner a.0 ≡ Some due
    first = sym (ap (must_behind s.owner) behind) ∙ is

    by : IsFirst s.owner a.0 due → IsOfTail c s a.0 e
    by (OfPackets k found same) =
        let must_be = must_in_tail s a (Completes false k failure) stops behind (packet_first s.owner a.0 k found) in
        let only = completion s.owner k failure e (ap (λ d. serves s.owner d e) (sym same) ∙ serve) in
        subst (IsOfTail c s a.0) (sym only) (of_tail c s a _ (completes_meets laws c s k failure must_be) (packet_ends s.owner a k behind found) stops behind refl refl)
    by (OfLoans j none found same) =
        let must_be = must_in_tail s a (BacksFailed j) stops behind (loan_first s.owner a.0 j none found) in
        let only = failed_loan s.owner j e (ap (λ d. serves s.owner d e) (sym same) ∙ serve) in
        subst (IsOfTail c s a.0) (sym only) (of_tail c s a _ (back_meets laws c s j must_be) (loan_ends s.owner a j behind none found) stops behind refl refl)
    by (OfRequests r none nor found same) =
        let must_be = must_in_tail s a (Answers r failure) stops behind (request_first s.owner a.0 (Some r) none nor found) in
        let only = answering s.owner r failure e (ap (λ d. serves s.owner d e) (sym same) ∙ serve) in
        subst (IsOfTail c s a.0) (sym only) (of_tail c s a _ (answer_meets laws c s r must_be) (request_ends s.owner a r behind none nor found) stops behind refl refl)

-- ---- entries in a row

neither : (a b : Bool) → a ≡ false → b ≡ false → a || b ≡ false
neither false b h k = k
neither true b h k = absurd (cc)

-- no stop for want of memory is in the one nor in the other
pub none_in_both : (es more : List Entry) → list_any is_memory_stop es ≡ false → list_any is_memory_stop more ≡ false → list_any is_memory_stop (es ++ more) ≡ false
none_in_both es more h k = list_any-append is_memory_stop es more ∙ neither (list_any is_memory_stop es) (list_any is_memory_stop more) h k

pub none_in_front : (e : Entry) (es : List Entry) → is_memory_stop e ≡ false → list_any is_memory_stop es ≡ false → list_any is_memory_stop (e ∷ es) ≡ false
none_in_front e es h k = neither (is_memory_stop e) (list_any is_memory_stop es) h k

-- the adapter was stopped from before on, and its tail is being written
pub record IsEnding (c : Inputs) (a : AdapterNo) (cause : Cause) (before r : Running) : Type 0 where
  pub tailing : IsTailing c a r
  pub next : (state_of c r).next ≡ Stops cause (stops_behind c (state_of c before) a.0 cause)
  pub others : (b : ℕ) → b ≢ a.0 → outstanding (owner_of c r) b ≡ outstanding (owner_of c before) b
  pub rows : (owner_of c r).adapters ≡ change stopped (owner_of c before).adapters a.0
  pub tail : List Entry
  pub plain : list_any is_memory_stop tail ≡ false
  pub written : r.log.entries ≡ before.log.entries ++ entries.Stop a cause ∷ tail
  pub spare : r.log.spare + 1 + outstanding (owner_of c before) a.0 ≡ before.log.spare + outstanding (owner_of c r) a.0

pub ending_begins : (c : Inputs) (a : AdapterNo) (cause : Cause) (before r : Running) → Grows (point_of c before) (entries.Stop a cause) before r → IsEnding c a cause before r
ending_begins c a cause before r grown =
    let added = adds c _ before r grown in
    record {
      tailing = record {
        runs = added.runs;
        behind = ap (λ (s : State). s.owner.next) added.state;
        stops = ap (λ (s : State). is_stops s.next) added.state;
      };
      next = ap (λ (s : State). s.next) added.state;
      others = λ b other. ap (λ (s : State). outstanding s.owner b) added.state;
      rows = ap (λ (s : State). s.owner.adapters) added.state;
      tail = [];
      plain = refl;
      written = added.written;
      spare = let same : outstanding (owner_of c r) a.0 ≡ outstanding (owner_of c before) a.0 = ap (λ (s : State). outstanding s.owner a.0) added.state in let one = added.spare in omega (arith, same, one);
    }

pub ending_goes_on : (c : Inputs) (a : AdapterNo) (cause : Cause) (before m r : Running) → IsEnding c a cause before m → EndsOne c a m r → IsEnding c a cause before r
ending_goes_on c a cause before m r some one = record {
  tailing = one.tailing;
  next = one.keeps.next ∙ some.next;
  others = λ b other. one.keeps.others b other ∙ some.others b other;
  rows = one.keeps.rows ∙ some.rows;
  tail = some.tail ++ one.entry ∷ [];
  plain = none_in_both some.tail (one.entry ∷ []) some.plain (none_in_front one.entry [] one.plain refl);
  written = one.written ∙ ap (λ es. es ++ one.entry ∷ []) some.written ∙ append_assoc before.log.entries (entries.Stop a cause ∷ some.tail) (one.entry ∷ []);
  spare = let x = some.spare in let y = one.spare in let z = one.falls in omega (arith, x, y, z);
}

pub ending_ends : StopLaws → (c : Inputs) (a : AdapterNo) (cause : Cause) (before r : Running) → IsEnding c a cause before r → tail (owner_of c r) a.0 ≡ None → StopsWhole c a cause before r
ending_ends laws c a cause before r ending over =
    let nothing = laws.ends (owner_of c r) a.0 over in
    record {
      runs = ending.tailing.runs;
      over = ap (must_behind (owner_of c r)) ending.tailing.behind ∙ over;
      next = ending.next;
      nothing = nothing;
      others = ending.others;
      rows = ending.rows;
      tail = ending.tail;
      plain = ending.plain;
      written = ending.written;
      spare = let x = ending.spare in omega (arith, x, nothing);
    }

-- ---- what an entry of a tail needs

room : StopLaws → (o : Owner) (a : ℕ) (due : owners.Due) (e : Entry) (spare : ℕ) → tail o a ≡ Some due → serves o due e ≡ true → outstanding o a ≤ spare → 0 < spare
room laws o a due e spare is serve fits = let less = laws.falls o a due e is serve in omega (arith, less, fits)

pub packet_may : StopLaws → DutyLaws → (c : Inputs) (a : AdapterNo) (k : ℕ) (r : Running) → IsTailing c a r → outstanding (owner_of c r) a.0 ≤ r.log.spare → position (out_of a.0) (owner_of c r).packets ≡ Some k
    → Meets c (state_of c r) (entries.Complete (record { 0 = k }) (record { 0 = failure })) × (0 < r.log.spare)
packet_may laws duties c a k r tailing fits found =
    let is = packet_first (owner_of c r) a.0 k found in
    (completes_meets duties c (state_of c r) k failure (must_in_tail (state_of c r) a (Completes false k failure) tailing.stops tailing.behind is), room laws (owner_of c r) a.0 (Completes false k failure) (entries.Complete (record { 0 = k }) (record { 0 = failure })) r.log.spare is (serve_packet (owner_of c r) k) fits)

pub loan_may : StopLaws → DutyLaws → (c : Inputs) (a : AdapterNo) (j : ℕ) (r : Running) → IsTailing c a r → outstanding (owner_of c r) a.0 ≤ r.log.spare → position (out_of a.0) (owner_of c r).packets ≡ None
    → position (away_of a.0) (owner_of c r).loans ≡ Some j → Meets c (state_of c r) (entries.Back (record { 0 = j }) true) × (0 < r.log.spare)
loan_may laws duties c a j r tailing fits none found =
    let is = loan_first (owner_of c r) a.0 j none found in
    (back_meets duties c (state_of c r) j (must_in_tail (state_of c r) a (BacksFailed j) tailing.stops tailing.behind is), room laws (owner_of c r) a.0 (BacksFailed j) (entries.Back (record { 0 = j }) true) r.log.spare is (serve_loan (owner_of c r) j) fits)

pub request_may : StopLaws → DutyLaws → (c : Inputs) (a : AdapterNo) (q : ℕ) (r : Running) → IsTailing c a r → outstanding (owner_of c r) a.0 ≤ r.log.spare → position (out_of a.0) (owner_of c r).packets ≡ None
    → position (away_of a.0) (owner_of c r).loans ≡ None → position (open_of a.0) (owner_of c r).requests ≡ Some q → Meets c (state_of c r) (failed_answer (record { 0 = q })) × (0 < r.log.spare)
request_may laws duties c a q r tailing fits none nor found =
    let is = request_first (owner_of c r) a.0 (Some q) none nor found in
    (answer_meets duties c (state_of c r) q (must_in_tail (state_of c r) a (Answers q failure) tailing.stops tailing.behind is), room laws (owner_of c r) a.0 (Answers q failure) (failed_answer (record { 0 = q })) r.log.spare is (serve_request (owner_of c r) q) fits)
