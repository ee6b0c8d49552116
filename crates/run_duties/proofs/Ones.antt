-- Adapters and open handlers over a run: as many adapters as were given, and the adapter of each open handler stands.
use Rattle.std.proofs.Common.{◌≡◌, ℕ, zero, suc, Bool, true, false, ◌||◌, List, None, refl, ap, ◌∙◌, length}
use Rattle.std.specs.Prelude.{replicate}
use Rattle.std.specs.Option.{option_map_or}
use Rattle.std.proofs.lemmas.List.{length-replicate}
use Rattle.nd_base.specs.declared.numbers.CtxNo.{CtxNo}
use Rattle.call_log.specs.declared.entry.Entry.{Entry}
use Rattle.call_log.specs.declared.entry.Entry.TheVariants as entries
use Rattle.owner_machine.specs.declared.rows.Adapter.{Adapter}
use Rattle.owner_machine.specs.declared.rows.Context.TheVariants as kept
use Rattle.owner_machine.specs.State.{Owner, at}
use Rattle.owner_machine.specs.Must.{Due as OwnerDue, Completes, owner_must, serves, is_served}
use Rattle.owner_machine.specs.Machine.{rule_against}
use Rattle.legal_run.specs.State.{Inputs, State, start}
use Rattle.legal_run.specs.Calls.{leaves}
use Rattle.legal_run.specs.After.{after, owner_left, is_breaking}
use Rattle.run_duties.proofs.Standing.{standing, is_stop, AllFit, stays, count, fit_after}

-- ---- the owner machine's part of a state

pub record StandOnes (c : Inputs) (o : Owner) : Type 0 where
  pub count : length o.adapters ≡ length c.adapters
  pub fit : AllFit o.adapters o.contexts

ones_left : (c : Inputs) (o : Owner) (x : CtxNo) (eax : ℕ) (breaks : Bool) → rule_against o (entries.Leave x eax) ≡ None → StandOnes c o → StandOnes c (owner_left o (entries.Leave x eax) breaks)
ones_left c o x eax true none ones = record { count = ones.count; fit = ones.fit }
ones_left c o x eax false none ones = record { count = count o (entries.Leave x eax) ∙ ones.count; fit = fit_after o (entries.Leave x eax) none ones.fit }

pub ones_after : (c : Inputs) (s : State) (e : Entry) → rule_against s.owner e ≡ None → StandOnes c s.owner → StandOnes c (after c s e).owner
ones_after c s (entries.Leave x eax) none ones = ones_left c s.owner x eax (is_breaking (leaves c s x eax)) none ones
ones_after c s (entries.Reply x eax writes) none ones =
    record { count = count s.owner (entries.Reply x eax writes) ∙ ones.count; fit = fit_after s.owner (entries.Reply x eax writes) none ones.fit }
ones_after c s e none ones = record { count = count s.owner e ∙ ones.count; fit = fit_after s.owner e none ones.fit }

left_stays : (o : Owner) (x : CtxNo) (eax : ℕ) (breaks : Bool) (a : ℕ) → at standing o.adapters a ≡ true → at standing (owner_left o (entries.Leave x eax) breaks).adapters a ≡ true
left_stays o x eax true a is = is
left_stays o x eax false a is = stays o (entries.Leave x eax) a refl is

pub run_stays : (c : Inputs) (s : State) (e : Entry) (a : ℕ) → is_stop e ≡ false → at standing s.owner.adapters a ≡ true → at standing (after c s e).owner.adapters a ≡ true
run_stays c s (entries.Leave x eax) a other is = left_stays s.owner x eax (is_breaking (leaves c s x eax)) a is
run_stays c s (entries.Reply x eax writes) a other is = stays s.owner (entries.Reply x eax writes) a refl is
run_stays c s e a other is = stays s.owner e a other is

fresh : (rows : List Adapter) (n : ℕ) → AllFit rows (replicate n kept.Free)
fresh rows zero = tt
fresh rows (suc n) = (refl, fresh rows n)

pub ones_start : (c : Inputs) → StandOnes c (start c).owner
ones_start c = record { count = length-replicate _ _; fit = fresh (start c).owner.adapters 16 }

-- ---- where the owner machine asks for nothing

pub served_alone : (o : Owner) (e : Entry) → owner_must o ≡ None → is_served o e ≡ true
served_alone o e none = ap (λ m. option_map_or (λ due. serves o due e || Rattle.owner_machine.specs.Must.may_break_in o.next e) m true) none
