-- Each request: answers so far and what is open are what was asked.
use Rattle.std.proofs.Common.{◌≡◌, ℕ, ◌+◌, Bool, true, false, ◌&&◌, ◌==◌, List, [], ◌∷◌, ◌++◌, length, Option, Some, None, refl, sym, ap, ◌∙◌, inl, inr, arith}
use Rattle.std.specs.List.{position}
use Rattle.call_log.specs.declared.entry.Entry.{Entry}
use Rattle.call_log.specs.declared.entry.Entry.TheVariants.{Ask, HandAsk, Answer}
use Rattle.log_fields.specs.declared.field_values.Question.TheVariants.{Query}
use Rattle.owner_machine.specs.declared.rows.Request.{Request}
use Rattle.owner_machine.specs.declared.rows.RequestPlace.{RequestPlace}
use Rattle.owner_machine.specs.declared.rows.RequestPlace.TheVariants.{Answered}
use Rattle.owner_machine.specs.declared.rows.Next.{Next}
use Rattle.owner_machine.specs.declared.rows.Next.TheVariants.{Tail, Left}
use Rattle.owner_machine.specs.State.{Owner, at, change, is_number, adapter_of}
use Rattle.owner_machine.specs.Requests.{unanswered, is_open, is_handed, is_asked, is_turned_away, asked, asked_of, answered, handed_ask, may_end_ask, by_verdict, by_call, by_stop, first_place, request_adapter, ask_enter, refused_with}
use Rattle.owner_machine.specs.Machine.{rule_against, after}
use Rattle.owner_machine.specs.Legal.{Legal, Ends, Goes, Registers, Breaches}
use Rattle.owner_machine.specs.Laws.{number, answers, asks, times}
use Rattle.owner_machine.proofs.Bools.{case_of, and_first, and_second, or_true, equal}
use Rattle.owner_machine.proofs.Changed.{keeps, ends, grows, weaker, first_passes, unchanged}

abbrev pub is_open_row : Request → Bool
is_open_row r = is_open r.place

pub no_request : Request
no_request = record { driver = record { 0 = 0 }; adapter = record { 0 = 0 }; question = Query 0 0; place = Answered; hand = 0 }

handed_open : (place : RequestPlace) → is_handed place ≡ true → is_open place ≡ true
handed_open Answered h = h
handed_open _ h = refl

asked_open : (place : RequestPlace) → is_asked place ≡ true → is_open place ≡ true
asked_open Answered h = h
asked_open _ h = refl

refused_open : (place : RequestPlace) → is_turned_away place ≡ true → is_open place ≡ true
refused_open Answered h = h
refused_open _ h = refl

first_open : (o : Option ℕ) → is_open (first_place o) ≡ true
first_open None = refl
first_open (Some s) = refl

verdict_open : (next : Next) (r : Request) → by_verdict next r ≡ true → is_open_row r ≡ true
verdict_open (Left a h enter from) r is = handed_open r.place (and_first _ _ is)
verdict_open _ r is = absurd (cc)

stop_open : (next : Next) (r : Request) → by_stop next r ≡ true → is_open_row r ≡ true
stop_open (Tail a) r is = and_first _ _ is
stop_open _ r is = absurd (cc)

pub end_open : (o : Owner) (r : Request) → may_end_ask o r ≡ true → is_open_row r ≡ true
end_open o r h = elim (or_true (by_verdict o.next r) _ h) [
  | inl is ↦ verdict_open o.next r is
  | inr h2 ↦ elim (or_true (by_call o r) _ h2) [
    | inl is ↦ handed_open r.place (and_first _ _ is)
    | inr h3 ↦ elim (or_true (is_turned_away r.place) _ h3) [
      | inl is ↦ refused_open r.place is
      | inr is ↦ stop_open o.next r is
    ]
  ]
]

ask_step : (rows : List Request) (new : Request) (j k : ℕ) → j == length rows ≡ true → is_open_row new ≡ true → number false + number (at is_open_row (rows ++ new ∷ []) k) ≡ number (at is_open_row rows k) + number (j == k)
ask_step rows new j k h is =
    let same : j ≡ length rows = equal j (length rows) h in
    let both : (b : Bool) → b && is_open_row new ≡ b = λ b. both_of b in
    let n : number ((length rows == k) && is_open_row new) ≡ number (j == k) = ap number (both (length rows == k)) ∙ ap (λ (m : ℕ). number (m == k)) (sym same) in
    omega (arith, grows is_open_row rows new k, n)
  where
    both_of : (b : Bool) → b && is_open_row new ≡ b
    both_of true = is
    both_of false = refl

hand_ask_step : (rows : List Request) (a enter j k : ℕ) → is_number (position (asked_of a) rows) j ≡ true → at is_open_row (change (handed_ask enter) rows j) k ≡ at is_open_row rows k
hand_ask_step rows a enter j k h = keeps is_open_row (asked_of a) (handed_ask enter) rows j k (first_passes (asked_of a) rows no_request j h) (λ row is. sym (asked_open row.place (and_first _ _ is)))

request_step : (o : Owner) (e : Entry) (k : ℕ) → rule_against o e ≡ None → number (answers k e) + number (unanswered (after o e) k) ≡ number (unanswered o k) + number (asks k e)
request_step o (Ask driver request question) k h = ask_step o.requests (asked o driver question) request.0 k (and_second _ _ (case_of o (Ask driver request question) h)) (first_open (refused_with o (adapter_of o driver.0) question))
request_step o (HandAsk request) k h = unchanged _ _ (hand_ask_step o.requests (request_adapter o request.0) (ask_enter o.next) request.0 k (and_first _ _ (and_second _ _ (case_of o (HandAsk request) h))))
request_step o (Answer request status bytes) k h = let n = ends is_open_row answered o.requests request.0 k (weaker (may_end_ask o) is_open_row o.requests request.0 (end_open o) (case_of o (Answer request status bytes) h)) (λ row. refl) in omega (arith, n)
request_step o _ k h = omega arith

pub requests_kept : (o n : Owner) (log : List Entry) (k : ℕ) → Legal o log n → times (answers k) log + number (unanswered n k) ≡ number (unanswered o k) + times (asks k) log
unfolding times
requests_kept o n log k (Ends m) = omega arith
requests_kept o n log k (Goes m l e rest h more) = let one = request_step o e k h in let all = requests_kept (after o e) n rest k more in omega (arith, one, all)
requests_kept o n log k (Registers m l rest c p more) = requests_kept _ n log k more
requests_kept o n log k (Breaches m l c eax rest h more) = let all = requests_kept _ n rest k more in omega (arith, all)
