-- The owner machine takes each run.
use Rattle.std.proofs.Common.{◌≡◌, ℕ, Bool, true, false, List, [], ◌∷◌, None}
use Rattle.nd_base.specs.declared.numbers.CtxNo.{CtxNo}
use Rattle.call_log.specs.declared.entry.Entry.{Entry}
use Rattle.call_log.specs.declared.entry.Entry.TheVariants as entries
use Rattle.owner_machine.specs.State.{Owner}
use Rattle.owner_machine.specs.Machine.{rule_against}
use Rattle.owner_machine.specs.Legal.{Legal, Ends, Goes, Registers, Breaches}
use Rattle.legal_run.specs.State.{Inputs, State, start}
use Rattle.legal_run.specs.Calls.{leaves}
use Rattle.legal_run.specs.After.{after, owner_after, owner_left, is_breaking, effect}
use Rattle.legal_run.specs.Run.{RunFrom, now_from, now, Run}

left : (o n : Owner) (x : CtxNo) (eax : ℕ) (log : List Entry) (breaks : Bool) → rule_against o (entries.Leave x eax) ≡ None
    → Legal (owner_left o (entries.Leave x eax) breaks) log n → Legal o (entries.Leave x eax ∷ log) n
left o n x eax log true none rest = Breaches o n x eax log none rest
left o n x eax log false none rest = Goes o n (entries.Leave x eax) log none rest

step : (c : Inputs) (s t : State) (n : Owner) (e : Entry) (log : List Entry) → rule_against s.owner e ≡ None → Legal (owner_after c s t e) log n → Legal s.owner (e ∷ log) n
step c s t n (entries.Leave x eax) log none rest = left s.owner n x eax log (is_breaking (leaves c s x eax)) none rest
step c s t n (entries.Reply x eax writes) log none rest = Goes s.owner n (entries.Reply x eax writes) log none (Registers _ n log _ _ rest)
step c s t n e log none rest = Goes s.owner n e log none rest

legal_from : (c : Inputs) (s : State) (log : List Entry) → RunFrom c s log → Legal s.owner log (now_from c s log).owner
unfolding RunFrom now_from
legal_from c s [] run = Ends s.owner
legal_from c s (e ∷ log) run = step c s (effect c s e) _ e log run.0.owner (legal_from c (after c s e) log run.1)

pub is_legal : (c : Inputs) (log : List Entry) → Run c log → Legal (start c).owner log (now c log).owner
is_legal c log run = legal_from c (start c) log run
