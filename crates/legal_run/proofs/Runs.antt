-- A run goes on by one entry, and each front of a run is a run.
use Rattle.std.proofs.Common.{◌≡◌, ◌↔◌, List, [], ◌∷◌, ◌++◌, refl, sym, ◌∙◌, subst, Option, Some, None, inl, true}
use Rattle.std.specs.Option.{MatchOption}
use Rattle.call_log.specs.declared.entry.Entry.{Entry}
use Rattle.owner_machine.specs.Machine.{rule_against}
use Rattle.legal_run.specs.State.{Inputs, State, start}
use Rattle.legal_run.specs.After.{after}
use Rattle.legal_run.specs.Must.{Due, must, Serves}
use Rattle.legal_run.specs.Run.{RunFrom, now_from, now, Run, Reaches, Meets, freely}

run_more : (c : Inputs) (s : State) (log : List Entry) (e : Entry) → RunFrom c s log → Meets c (now_from c s log) e → RunFrom c s (log ++ e ∷ [])
unfolding RunFrom now_from
run_more c s [] e run meets = (meets, tt)
run_more c s (first ∷ log) e run meets = (run.0, run_more c (after c s first) log e run.1 meets)

pub run_less : (c : Inputs) (s : State) (log : List Entry) (e : Entry) → RunFrom c s (log ++ e ∷ []) → RunFrom c s log × Meets c (now_from c s log) e
unfolding RunFrom now_from
run_less c s [] e run = (tt, run.0)
run_less c s (first ∷ log) e run = let rest = run_less c (after c s first) log e run.1 in ((run.0, rest.0), rest.1)

pub more : (c : Inputs) (log : List Entry) (e : Entry) → Run c (log ++ e ∷ []) ↔ (Run c log × Meets c (now c log) e)
more c log e = (run_less c (start c) log e, λ both. run_more c (start c) log e both.0 both.1)

now_more : (c : Inputs) (s : State) (log : List Entry) (e : Entry) → now_from c s (log ++ e ∷ []) ≡ after c (now_from c s log) e
unfolding now_from
now_more c s [] e = refl
now_more c s (first ∷ log) e = now_more c (after c s first) log e

pub next : (c : Inputs) (log : List Entry) (e : Entry) → now c (log ++ e ∷ []) ≡ after c (now c log) e
next c log e = now_more c (start c) log e

run_front : (c : Inputs) (s : State) (log more : List Entry) → RunFrom c s (log ++ more) → RunFrom c s log
unfolding RunFrom
run_front c s [] more run = tt
run_front c s (first ∷ log) more run = (run.0, run_front c (after c s first) log more run.1)

pub front : (c : Inputs) (log more : List Entry) → Run c (log ++ more) → Run c log
front c log more run = run_front c (start c) log more run

pub one : (c : Inputs) (log : List Entry) (s t : State) → Reaches c log s → Reaches c log t → s ≡ t
one c log s t this that = sym this.state ∙ that.state

pub due_meets : (c : Inputs) (s : State) (due : Due) (e : Entry) → must s ≡ Some due → Serves c s due e → rule_against s.owner e ≡ None → Meets c s e
due_meets c s due e is serves owner = record {
  owner = owner;
  turn = inl (subst (λ (d : Option Due). MatchOption d (freely c s e ≡ true) (λ x. Serves c s x e)) (sym is) serves);
}
