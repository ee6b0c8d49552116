-- What holds at the start of a run, and behind each entry that may stand, holds of every state of a run.
use Rattle.std.proofs.Common.{List, [], ◌∷◌, subst}
use Rattle.call_log.specs.declared.entry.Entry.{Entry}
use Rattle.legal_run.specs.State.{Inputs, State, start}
use Rattle.legal_run.specs.After.{after}
use Rattle.legal_run.specs.Run.{RunFrom, Meets, now_from}
use Rattle.run_facts.specs.Facts.{IsOfRun, GoesOn}

-- it holds behind an entry of what it held of
abbrev pub Steps : Inputs → (State → Type 0) → Type 0
Steps c P = (s : State) (e : Entry) → IsOfRun c s → P s → Meets c s e → P (after c s e)

kept_from : GoesOn → (c : Inputs) (P : State → Type 0) → Steps c P → (s : State) (log : List Entry) → IsOfRun c s → P s → RunFrom c s log → P (now_from c s log)
unfolding RunFrom now_from
kept_from on c P step s [] is p run = p
kept_from on c P step s (e ∷ log) is p run = kept_from on c P step (after c s e) log (on.goes c s e is run.0) (step s e is p run.0) run.1

pub of_run : GoesOn → (c : Inputs) (P : State → Type 0) → Steps c P → P (start c) → (s : State) → IsOfRun c s → P s
of_run on c P step begun s is = subst P is.reaches.state (kept_from on c P step (start c) is.log (on.begins c) begun is.reaches.run)
