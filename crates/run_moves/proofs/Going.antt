-- A run goes on by an entry.
use Rattle.std.proofs.Common.{◌≡◌, List, [], ◌∷◌, ◌++◌, sym, ap, subst, ◌∙◌}
use Rattle.call_log.specs.declared.entry.Entry.{Entry}
use Rattle.legal_run.specs.Laws.{RunLaws}
use Rattle.legal_run.specs.State.{Inputs, State}
use Rattle.legal_run.specs.After.{after}
use Rattle.legal_run.specs.Run.{Meets, Reaches}

pub goes : RunLaws → (c : Inputs) (s : State) (e : Entry) (log : List Entry) → Reaches c log s → Meets c s e → Reaches c (log ++ e ∷ []) (after c s e)
goes laws c s e log reaches meets = record {
  run = (laws.more c log e).1 (reaches.run, subst (λ (t : State). Meets c t e) (sym reaches.state) meets);
  state = laws.next c log e ∙ ap (λ t. after c t e) reaches.state;
}
