-- One entry of the tail of a stop.
use Rattle.std.proofs.Common.{◌≡◌, ℕ, ◌+◌, ◌-◌, ◌≤◌, ◌<◌, Bool, true, false, ◌&&◌, ◌==◌, List, [], ◌∷◌, ◌++◌, Option, Some, None, refl, sym, ap, ◌∙◌, subst, arith, append_assoc}
use Rattle.std.specs.List.{position}
use Rattle.std.specs.Option.{option_map}
use Rattle.nd_base.specs.declared.numbers.AdapterNo.{AdapterNo}
use Rattle.log_fields.specs.declared.field_values.Cause.{Cause}
use Rattle.log_fields.specs.declared.field_values.Cause.TheVariants.{Budget}
use Rattle.call_log.specs.declared.entry.Entry.{Entry}
use Rattle.call_log.specs.declared.entry.Entry.TheVariants as entries
use Rattle.call_log.specs.Logs.{State}
use Rattle.owner_machine.specs.declared.rows.Next.{Next}
use Rattle.owner_machine.specs.declared.rows.Next.TheVariants.{Tail}
use Rattle.owner_machine.specs.State.{Owner, failure}
use Rattle.owner_machine.specs.Packets.{out_of}
use Rattle.owner_machine.specs.Loans.{away_of, behind_back}
use Rattle.owner_machine.specs.Requests.{open_of, behind_answer}
use Rattle.owner_machine.specs.Handlers.{outstanding}
use Rattle.owner_machine.specs.Must.{Due, Completes, BacksFailed, Answers, must_behind, serves, tail, first_due}
use Rattle.owner_machine.specs.Machine.{after}
use Rattle.owner_machine.specs.Laws.{StopLaws}
use Rattle.owner_book.specs.Stopping.{Serves, Begins, Then, Stops}
use Rattle.owner_book.specs.Tailing.{EndsOne, Tails}
use Rattle.owner_book.proofs.Admits.{no_packet, passes_at, tail_goes_on}

-- ---- what the tail is

pub first_packet : (o : Owner) (a k : ℕ) → position (out_of a) o.packets ≡ Some k → tail o a ≡ Some (Completes false k failure)
first_packet o a k found = ap (λ (n : Option ℕ). first_due (option_map (λ k. Completes false k failure) n) (first_due (option_map (λ j. BacksFailed j) (position (away_of a) o.loans)) (option_map (λ r. Answers r failure) (position (open_of a) o.requests)))) found

pub first_loan : (o : Owner) (a j : ℕ) → position (out_of a) o.packets ≡ None → position (away_of a) o.loans ≡ Some j → tail o a ≡ Some (BacksFailed j)
first_loan o a j none found =
    ap (λ (n : Option ℕ). first_due (option_map (λ k. Completes false k failure) n) (first_due (option_map (λ j. BacksFailed j) (position (away_of a) o.loans)) (option_map (λ r. Answers r failure) (position (open_of a) o.requests)))) none
    ∙ ap (λ (n : Option ℕ). first_due (option_map (λ j. BacksFailed j) n) (option_map (λ r. Answers r failure) (position (open_of a) o.requests))) found

pub first_request : (o : Owner) (a : ℕ) (r : Option ℕ) → position (out_of a) o.packets ≡ None → position (away_of a) o.loans ≡ None → position (open_of a) o.requests ≡ r → tail o a ≡ option_map (λ r. Answers r failure) r
first_request o a r none nor found =
    ap (λ (n : Option ℕ). first_due (option_map (λ k. Completes false k failure) n) (first_due (option_map (λ j. BacksFailed j) (position (away_of a) o.loans)) (option_map (λ r. Answers r failure) (position (open_of a) o.requests)))) none
    ∙ ap (λ (n : Option ℕ). first_due (option_map (λ j. BacksFailed j) n) (option_map (λ r. Answers r failure) (position (open_of a) o.requests))) nor
    ∙ ap (λ (n : Option ℕ). option_map (λ r. Answers r failure) n) found

-- ---- one entry

pub some_left : (o : Owner) (a : ℕ) (due : Due) (e : Entry) → StopLaws → tail o a ≡ Some due → serves o due e ≡ true → 0 < outstanding o a
some_left o a due e laws is serve = let less = laws.falls o a due e is serve in omega (arith, less)

pub ends_one : (o n : Owner) (adapter : AdapterNo) (log grown : State) (due : Due) (e : Entry) → StopLaws → outstanding o adapter.0 ≤ log.spare → o.next ≡ Tail adapter → tail o adapter.0 ≡ Some due → serves o due e ≡ true → n ≡ after o e → n.next ≡ Tail adapter → grown.entries ≡ log.entries ++ e ∷ [] → grown.spare ≡ log.spare - 1 → EndsOne o adapter log grown n
ends_one o n adapter log grown due e laws room behind is serve same next written spare =
    let less = laws.falls o adapter.0 due e is serve in
    record {
      due = due;
      entry = e;
      must = ap (λ (x : Next). must_behind o x) behind ∙ is;
      serves = serve;
      after = same;
      written = written;
      spare = omega (arith, less, room, spare);
      next = next;
      falls = ap (λ (x : Owner). outstanding x adapter.0 + 1) same ∙ less;
    }

same_number : (k : ℕ) → (k == k) ≡ true
same_number k = grind arith

serve_packet : (o : Owner) (k : ℕ) → serves o (Completes false k failure) (entries.Complete (record { 0 = k }) (record { 0 = failure })) ≡ true
serve_packet o k = ap (λ (t : Bool). t && (failure == failure)) (same_number k)

serve_loan : (o : Owner) (j : ℕ) → serves o (BacksFailed j) (entries.Back (record { 0 = j }) true) ≡ true
serve_loan o j = same_number j

serve_request : (o : Owner) (r : ℕ) → serves o (Answers r failure) (entries.Answer (record { 0 = r }) (record { 0 = failure }) []) ≡ true
serve_request o r = ap (λ (t : Bool). t && ((failure == failure) && true)) (same_number r)

pub packet_left : (o : Owner) (a k : ℕ) → StopLaws → position (out_of a) o.packets ≡ Some k → 0 < outstanding o a
packet_left o a k laws found = some_left o a (Completes false k failure) (entries.Complete (record { 0 = k }) (record { 0 = failure })) laws (first_packet o a k found) (serve_packet o k)

pub loan_left : (o : Owner) (a j : ℕ) → StopLaws → position (out_of a) o.packets ≡ None → position (away_of a) o.loans ≡ Some j → 0 < outstanding o a
loan_left o a j laws none found = some_left o a (BacksFailed j) (entries.Back (record { 0 = j }) true) laws (first_loan o a j none found) (serve_loan o j)

pub request_left : (o : Owner) (a r : ℕ) → StopLaws → position (out_of a) o.packets ≡ None → position (away_of a) o.loans ≡ None → position (open_of a) o.requests ≡ Some r → 0 < outstanding o a
request_left o a r laws none nor found = some_left o a (Answers r failure) (entries.Answer (record { 0 = r }) (record { 0 = failure }) []) laws (first_request o a (Some r) none nor found) (serve_request o r)

pub ends_packet : (o n : Owner) (adapter : AdapterNo) (k : ℕ) (log grown : State) → StopLaws → outstanding o adapter.0 ≤ log.spare → o.next ≡ Tail adapter → position (out_of adapter.0) o.packets ≡ Some k → n ≡ after o (entries.Complete (record { 0 = k }) (record { 0 = failure })) → grown.entries ≡ log.entries ++ entries.Complete (record { 0 = k }) (record { 0 = failure }) ∷ [] → grown.spare ≡ log.spare - 1 → EndsOne o adapter log grown n
ends_packet o n adapter k log grown laws room behind found same written spare = ends_one o n adapter log grown (Completes false k failure) (entries.Complete (record { 0 = k }) (record { 0 = failure })) laws room behind (first_packet o adapter.0 k found) (serve_packet o k) same (ap (λ (x : Owner). x.next) same ∙ tail_goes_on adapter o k behind (passes_at (out_of adapter.0) o.packets no_packet k found)) written spare

pub ends_loan : (o n : Owner) (adapter : AdapterNo) (j : ℕ) (log grown : State) → StopLaws → outstanding o adapter.0 ≤ log.spare → o.next ≡ Tail adapter → position (out_of adapter.0) o.packets ≡ None → position (away_of adapter.0) o.loans ≡ Some j → n ≡ after o (entries.Back (record { 0 = j }) true) → grown.entries ≡ log.entries ++ entries.Back (record { 0 = j }) true ∷ [] → grown.spare ≡ log.spare - 1 → EndsOne o adapter log grown n
ends_loan o n adapter j log grown laws room behind none found same written spare = ends_one o n adapter log grown (BacksFailed j) (entries.Back (record { 0 = j }) true) laws room behind (first_loan o adapter.0 j none found) (serve_loan o j) same (ap (λ (x : Owner). x.next) same ∙ ap behind_back behind) written spare

pub ends_request : (o n : Owner) (adapter : AdapterNo) (r : ℕ) (log grown : State) → StopLaws → outstanding o adapter.0 ≤ log.spare → o.next ≡ Tail adapter → position (out_of adapter.0) o.packets ≡ None → position (away_of adapter.0) o.loans ≡ None → position (open_of adapter.0) o.requests ≡ Some r → n ≡ after o (entries.Answer (record { 0 = r }) (record { 0 = failure }) []) → grown.entries ≡ log.entries ++ entries.Answer (record { 0 = r }) (record { 0 = failure }) [] ∷ [] → grown.spare ≡ log.spare - 1 → EndsOne o adapter log grown n
ends_request o n adapter r log grown laws room behind none nor found same written spare = ends_one o n adapter log grown (Answers r failure) (entries.Answer (record { 0 = r }) (record { 0 = failure }) []) laws room behind (first_request o adapter.0 (Some r) none nor found) (serve_request o r) same (ap (λ (x : Owner). x.next) same ∙ ap behind_answer behind) written spare

-- ---- entries in a row

pub no_entries : (o : Owner) (adapter : AdapterNo) (log : State) → o.next ≡ Tail adapter → Tails o adapter log log o
no_entries o adapter log behind = record {
  tail = [];
  served = Begins o;
  written = none log.entries;
  next = behind;
  spare = refl;
}
  where
    none : (es : List Entry) → es ≡ es ++ []
    none [] = refl
    none (e ∷ es) = ap (λ xs. e ∷ xs) (none es)

pub one_more : (o m n : Owner) (adapter : AdapterNo) (log grown more : State) → Tails o adapter log grown m → EndsOne m adapter grown more n → Tails o adapter log more n
one_more o m n adapter log grown more some one = record {
  tail = some.tail ++ one.entry ∷ [];
  served = subst (λ (x : Owner). Serves o (some.tail ++ one.entry ∷ []) x) (sym one.after) (Then o m some.tail one.due one.entry some.served one.must one.serves);
  written = one.written ∙ ap (λ (es : List Entry). es ++ one.entry ∷ []) some.written ∙ append_assoc log.entries some.tail (one.entry ∷ []);
  next = one.next;
  spare = let a = some.spare in let b = one.spare in let c = one.falls in omega (arith, a, b, c);
}

pub spare_left : (o n : Owner) (adapter : AdapterNo) (log grown : State) → StopLaws → Tails o adapter log grown n → tail n adapter.0 ≡ None → grown.spare + outstanding o adapter.0 ≡ log.spare
spare_left o n adapter log grown laws some over = let none = laws.ends n adapter.0 over in let whole = some.spare in omega (arith, none, whole)

-- ---- a stop

pub same_left : (o n : Owner) (adapter : AdapterNo) → n ≡ after o (entries.Stop adapter Budget) → outstanding n adapter.0 ≡ outstanding o adapter.0
same_left o n adapter same = ap (λ (x : Owner). outstanding x adapter.0) same

append_two : (es : List Entry) (e : Entry) (tail : List Entry) → (es ++ e ∷ []) ++ tail ≡ es ++ e ∷ tail
append_two es e tail = append_assoc es (e ∷ []) tail

pub stops_whole : (o begun n : Owner) (adapter : AdapterNo) (cause : Cause) (es : List Entry) (log grown : State) → begun ≡ after o (entries.Stop adapter Budget) → log.entries ≡ es ++ entries.Stop adapter cause ∷ [] → Tails begun adapter log grown n → tail n adapter.0 ≡ None → Stops o adapter cause es grown.entries n
stops_whole o begun n adapter cause es log grown same written some over = record {
  tail = some.tail;
  served = subst (λ (x : Owner). Serves x some.tail n) same some.served;
  over = ap (λ (x : Next). must_behind n x) some.next ∙ over;
  written = some.written ∙ ap (λ (xs : List Entry). xs ++ some.tail) written ∙ append_two es (entries.Stop adapter cause) some.tail;
}
