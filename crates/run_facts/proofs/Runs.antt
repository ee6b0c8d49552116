-- What holds at the start of a run, and behind each entry that may stand, holds of every state of a run.
use Rattle.std.proofs.Common.{◌≡◌, Bool, true, false, cond, ◌&&◌, List, [], ◌∷◌, ◌++◌, Some, None, refl, sym, ap, ◌∙◌, subst}
use Rattle.call_log.specs.declared.entry.Entry.{Entry}
use Rattle.owner_machine.specs.State.{Owner}
use Rattle.owner_machine.specs.Machine.{rule_against, has_case, last_rule}
use Rattle.owner_machine.specs.Must.{is_served}
use Rattle.legal_run.specs.State.{Inputs, State, start}
use Rattle.legal_run.specs.After.{after}
use Rattle.legal_run.specs.Run.{Run, RunFrom, Meets, now, now_from}
use Rattle.run_facts.specs.Facts.{IsOfRun}

pub true_both : (a b : Bool) → (a && b) ≡ true → (a ≡ true) × (b ≡ true)
true_both true b h = (refl, h)
true_both false b h = absurd (cc)

-- an entry that breaks no rule has its case
pub case_of : (o : Owner) (e : Entry) → rule_against o e ≡ None → has_case o e ≡ true
case_of o e h = by_test (is_served o e) (has_case o e) h
  where
    by_test : (b d : Bool) → cond (b && d) (last_rule o e) (Some (Rattle.owner_machine.specs.Machine.rule_of e)) ≡ None → d ≡ true
    by_test true true h = refl
    by_test true false h = absurd (cc)
    by_test false d h = absurd (cc)

-- ---- a log with one more entry

more_from : (c : Inputs) (s : State) (log : List Entry) (e : Entry) → RunFrom c s log → Meets c (now_from c s log) e → RunFrom c s (log ++ e ∷ [])
unfolding RunFrom now_from
more_from c s [] e run meets = (meets, tt)
more_from c s (f ∷ log) e run meets = (run.0, more_from c (after c s f) log e run.1 meets)

pub now_more : (c : Inputs) (s : State) (log : List Entry) (e : Entry) → now_from c s (log ++ e ∷ []) ≡ after c (now_from c s log) e
unfolding now_from
now_more c s [] e = refl
now_more c s (first ∷ log) e = now_more c (after c s first) log e

pub no_entry : (c : Inputs) → Run c []
unfolding RunFrom
no_entry c = tt

pub now_start : (c : Inputs) → now c [] ≡ start c
unfolding now_from
now_start c = refl

unfoldable pub begins : (c : Inputs) → IsOfRun c (start c)
begins c = record { log = []; reaches = record { run = no_entry c; state = now_start c } }

pub run_more : (c : Inputs) (s : State) (e : Entry) → (is : IsOfRun c s) → Meets c s e → Run c (is.log ++ e ∷ [])
run_more c s e is meets = more_from c (start c) is.log e is.reaches.run (subst (λ (t : State). Meets c t e) (sym is.reaches.state) meets)

unfoldable pub goes : (c : Inputs) (s : State) (e : Entry) → IsOfRun c s → Meets c s e → IsOfRun c (after c s e)
goes c s e is meets = record {
  log = is.log ++ e ∷ [];
  reaches = record { run = run_more c s e is meets; state = now_more c (start c) is.log e ∙ ap (λ t. after c t e) is.reaches.state };
}

-- ---- induction

abbrev pub Steps : Inputs → (State → Type 0) → Type 0
Steps c P = (s : State) (e : Entry) → IsOfRun c s → P s → Meets c s e → P (after c s e)

kept_from : (c : Inputs) (P : State → Type 0) → Steps c P → (s : State) (log : List Entry) → IsOfRun c s → P s → RunFrom c s log → P (now_from c s log)
unfolding RunFrom now_from
kept_from c P step s [] is p run = p
kept_from c P step s (e ∷ log) is p run = kept_from c P step (after c s e) log (goes c s e is run.0) (step s e is p run.0) run.1

pub of_run : (c : Inputs) (P : State → Type 0) → Steps c P → P (start c) → (s : State) → IsOfRun c s → P s
of_run c P step begun s is = subst P is.reaches.state (kept_from c P step (start c) is.log (begins c) begun is.reaches.run)
