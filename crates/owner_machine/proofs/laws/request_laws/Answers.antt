use Rattle.std.proofs.Common.{◌≡◌, refl, ◌≢◌, zero, suc, Option, Some, None, slice_get, ℕ, ◌+◌, List, length, arith}
use Rattle.std.specs.Prelude.{nat_lt}
use Rattle.nd_base.specs.declared.numbers.AdapterNo.{AdapterNo}
use Rattle.call_log.specs.declared.entry.Entry.{Entry}
use Rattle.owner_machine.specs.declared.rows.Request.{Request}
use Rattle.owner_machine.specs.declared.rows.Driver.{Driver}
use Rattle.owner_machine.specs.State.{Owner}
use Rattle.owner_machine.specs.Requests.{unanswered, learnt_at}
use Rattle.owner_machine.specs.Legal.{Legal, start}
use Rattle.owner_machine.specs.Laws.{number, times, answers}
use Rattle.owner_machine.proofs.RequestLaw.{requests_kept}
use Rattle.owner_machine.proofs.NumberLaw.{asked_kept, none_below, is_below, one_at_most}
use Rattle.owner_machine.proofs.laws.request_laws.Goals as goal

whole : (adapters : ℕ) (drivers : List AdapterNo) (log : List Entry) (o : Owner) (r : ℕ) → Legal (start adapters drivers) log o → times (answers r) log + number (unanswered o r) ≡ number (nat_lt r (length o.requests))
whole adapters drivers log o r legal =
    let kept = requests_kept (start adapters drivers) o log r legal in
    let drawn = asked_kept (start adapters drivers) o log r legal in
    let none = none_below r in
    omega (arith, kept, drawn, none)

failed : (status : ℕ) (r : Option Request) (drivers : List Driver) → status ≢ 0 → learnt_at status r drivers ≡ drivers
failed zero r drivers h = absurd (h refl)
failed (suc n) (Some r) drivers h = refl
failed (suc n) None drivers h = refl

pub returns : goal.returns
returns _ = record {
  at_most_once = λ adapters drivers log o r legal. let all = whole adapters drivers log o r legal in let one = one_at_most (nat_lt r (length o.requests)) in omega (arith, all, one);
  exactly_once = λ adapters drivers log o r legal less. let all = whole adapters drivers log o r legal in let one = is_below r (length o.requests) less in omega (arith, all, one);
  learns = λ o request status bytes other. failed status.0 (slice_get o.requests request.0) o.drivers other;
}
