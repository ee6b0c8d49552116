-- What the answer to an open call costs.
use Rattle.std.proofs.Common.{◌≡◌, ℕ, ◌%◌, Bool, true, false, cond, List, [], Option, Some, None, sym, subst}
use Rattle.std.specs.Prelude.{⊤}
use Rattle.std.specs.Option.{option_map, option_and_then}
use Rattle.nd_base.specs.declared.numbers.CtxNo.{CtxNo}
use Rattle.log_fields.specs.declared.write.Write.{Write}
use Rattle.import_table.specs.Table.{row_of}
use Rattle.guest_world.specs.declared.answer.Reply.{Reply}
use Rattle.guest_world.specs.declared.world.World.{World}
use Rattle.import_answers.specs.Answers.{eight}
use Rattle.import_answers.specs.Outcomes.{Outcome, Replies, Picks, PicksDescriptor, Spins, Breaks, Sleeps, Synchronizes, resumed}
use Rattle.legal_run.specs.State.{State, Wait, Nothing, OnLock, OnClock, OnSync, Needed, Entered, Left, Calling, call_at, caller}
use Rattle.legal_run.specs.Replies.{Answered, Told, answered, answered_by, by_outcome, told_as, is_told}
use Rattle.call_facts.specs.Costs.{AreWords}
use Rattle.call_facts.proofs.RowCosts.{IsSmall, CostsIn, one, outcome_costs}

abbrev AnswerCosts : Option Answered → Type 0
AnswerCosts None = ⊤
AnswerCosts (Some given) = IsSmall given.0.cost

told_costs : (told : Told) (more : List Write) (reply : Reply) (w : World) → IsSmall reply.cost → AnswerCosts (told_as told more reply w)
told_costs told more reply w small = by_test (is_told told more reply)
  where
    by_test : (b : Bool) → AnswerCosts (cond b (Some (reply, w)) None)
    by_test true = small
    by_test false = tt

picked_costs : (reply : ℕ → Reply) (w : ℕ → World) (o : Option ℕ) → ((a : ℕ) → IsSmall (reply a).cost) → AnswerCosts (option_map (λ a. (reply a, w a)) o)
picked_costs reply w None small = tt
picked_costs reply w (Some a) small = small a

by_outcome_costs : (w : World) (told : Told) (more : List Write) (o : Outcome) → CostsIn o → AnswerCosts (by_outcome w told more o)
by_outcome_costs w told more (Replies reply v) small = told_costs told more reply v small
by_outcome_costs w told more (Picks n reply v) small = picked_costs reply v _ small
by_outcome_costs w told more (PicksDescriptor kind handle reply v) small = picked_costs reply v _ small
by_outcome_costs w told more (Breaks rule) small = tt
by_outcome_costs w told more (Spins holder v) small = tt
by_outcome_costs w told more (Sleeps moment) small = tt
by_outcome_costs w told more Synchronizes small = tt

wait_costs : (s : State) (x : CtxNo) (told : Told) (call : Calling) (w : Wait) → AreWords (eight call.words) → AnswerCosts (answered_by s x told call w)
wait_costs s x told call (OnSync (Left eax)) fits = told_costs told [] (resumed call.import (eax % 256)) s.world one
wait_costs s x told call (OnSync Needed) fits = tt
wait_costs s x told call (OnSync Entered) fits = tt
wait_costs s x told call (OnClock wake) fits = told_costs told [] (resumed call.import 0) s.world one
wait_costs s x told call Nothing fits = by_outcome_costs s.world told call.writes _ (outcome_costs s.world (caller s x) (row_of call.import) call.words fits)
wait_costs s x told call (OnLock lock) fits = by_outcome_costs s.world told call.writes _ (outcome_costs s.world (caller s x) (row_of call.import) call.words fits)

call_costs : (s : State) (x : CtxNo) (told : Told) (call : Calling) (m : Option Calling) → m ≡ Some call → AreWords (eight call.words)
    → AnswerCosts (option_and_then (λ call. answered_by s x told call call.wait) m)
call_costs s x told call m is fits =
    subst (λ (m : Option Calling). AnswerCosts (option_and_then (λ call. answered_by s x told call call.wait) m)) (sym is) (wait_costs s x told call call.wait fits)

pub answers : (s : State) (x : CtxNo) (told : Told) (call : Calling) (given : Answered) → call_at s x.0 ≡ Some call → AreWords (eight call.words) → answered s x told ≡ Some given → IsSmall given.0.cost
answers s x told call given is fits found = subst AnswerCosts found (call_costs s x told call (call_at s x.0) is fits)
