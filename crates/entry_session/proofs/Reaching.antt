-- How the log of a run of DriverEntry alone goes on, and where it ends.
use Rattle.std.proofs.Common.{◌≡◌, ℕ, ◌+◌, Bool, true, false, ◌||◌, List, [], ◌∷◌, ◌++◌, refl, sym, ap, ◌∙◌, subst, append-nil}
use Rattle.std.proofs.lemmas.List.{append_assoc}
use Rattle.std.specs.Prelude.{nat_le}
use Rattle.log_fields.specs.declared.field_values.Cause.TheVariants as cause
use Rattle.call_log.specs.declared.entry.Entry.{Entry}
use Rattle.legal_run.specs.State.{Inputs, State, Stops, start}
use Rattle.legal_run.specs.Laws.{RunLaws}
use Rattle.legal_run.specs.Run.{Run, Meets, Reaches, RunFrom, now_from}
use Rattle.legal_run.specs.After.{after, reaches, spent}
use Rattle.entry_run.specs.Alone.{Kept, shown}
use Rattle.entry_run.specs.Laws.{first}
use Rattle.entry_session.specs.declared.session.Ending.TheVariants.{Spent}
use Rattle.entry_session.specs.declared.session.Session.{Session}
use Rattle.entry_session.specs.Session.{Setting, inputs, HasEnded, HasBrokenOff, Adds}

-- a log with one entry more leaves what the entry leaves
pub goes : RunLaws → (c : Inputs) (log more : List Entry) (e : Entry) (s t : State) → Reaches c log s → Meets c s e → after c s e ≡ t → more ≡ log ++ e ∷ [] → Reaches c more t
goes laws c log more e s t at meets leaves is =
    subst (λ (l : List Entry). Reaches c l t) (sym is) (record {
      run = (laws.more c log e).1 (at.run, subst (λ (u : State). Meets c u e) (sym at.state) meets);
      state = laws.next c log e ∙ ap (λ (u : State). after c u e) at.state ∙ leaves;
    })

none : (c : Inputs) → Reaches c [] (start c)
unfolding RunFrom now_from
none c = record { run = tt; state = refl }

-- the first entry
pub begins : RunLaws → (c : Inputs) (log : List Entry) (e : Entry) (t : State) → Meets c (start c) e → after c (start c) e ≡ t → log ≡ e ∷ [] → Reaches c log t
begins laws c log e t meets leaves is = goes laws c [] log e (start c) t (none c) meets leaves is

-- ---- charges

or_false : (b : Bool) → (b || false) ≡ b
or_false true = refl
or_false false = refl

-- there is no adapter, so the budget is reached by DriverEntry's own charge
pub reached : (c : Setting) (k : Kept) (n : ℕ) → reaches (inputs c) (shown k) first n ≡ nat_le c.budget (k.charged + n)
reached c k n = or_false (nat_le c.budget (k.charged + n))

-- ---- ends

pub ended_spent : (c : Setting) (s : Session) (k : Kept) → Reaches (inputs c) s.log.entries (shown k) → k.next ≡ Stops cause.Budget [] → s.charged ≡ k.charged → HasEnded c s Spent
ended_spent c s k at stops sum = record {
  whole = record { run = at.run; ends = ap (λ (t : State). t.next) at.state ∙ stops };
  sum = sum ∙ sym (ap (λ (t : State). t.charged) at.state);
}

pub adds_none : (before after : List Entry) → after ≡ before → Adds before after
adds_none before after same = ([], same ∙ sym (append-nil before))

pub adds_one : (before after : List Entry) (e : Entry) → after ≡ before ++ e ∷ [] → Adds before after
adds_one before after e is = (e ∷ [], is)

pub adds_more : (first mid last : List Entry) → Adds first mid → Adds mid last → Adds first last
adds_more first mid last (one, is) (two, more) = (one ++ two, more ∙ ap (λ (l : List Entry). l ++ two) is ∙ append_assoc first one two)

-- memory is wanted where nothing more was logged or charged
pub broken_off : (c : Setting) (before after : Session) (t : State) → Reaches (inputs c) before.log.entries t → after.log.entries ≡ before.log.entries → after.charged ≡ t.charged → HasBrokenOff c before after
broken_off c before after t at is sum =
    let here : Reaches (inputs c) after.log.entries t = subst (λ (l : List Entry). Reaches (inputs c) l t) (sym is) at in
    record { run = here.run; sum = sum ∙ sym (ap (λ (t : State). t.charged) here.state); added = adds_none before.log.entries after.log.entries is }

pub broken_later : (c : Setting) (first mid last : Session) → Adds first.log.entries mid.log.entries → HasBrokenOff c mid last → HasBrokenOff c first last
broken_later c first mid last added broken = record { run = broken.run; sum = broken.sum; added = adds_more first.log.entries mid.log.entries last.log.entries added broken.added }
