-- A handler can be entered exactly where one is owed and a context is free.
use Rattle.std.proofs.Common.{◌≡◌, ℕ, Bool, true, false, ◌&&◌, ◌||◌, cond, List, [], ◌∷◌, filter, Option, Some, None, is_some, refl, sym, ap, ◌∙◌}
use Rattle.std.specs.Option.{option_map}
use Rattle.std.specs.List.{list_any}
use Rattle.nd_base.specs.declared.numbers.CtxNo.{CtxNo}
use Rattle.legal_run.specs.State.{Inputs, State, all_contexts, is_free}
use Rattle.legal_run.specs.Owed.{first, some_owed}
use Rattle.owed_handlers.specs.declared.choice.Owed.{Owed}
use Rattle.owed_handlers.specs.Order.{first_owed}
use Rattle.owed_handlers.specs.Laws.{OwedLaws}
use Rattle.run_rests.specs.Entering.{first_free, placed, next_enter}

-- ---- the first that passes

one_front : {A : Type 0} (p : A → Bool) (x : A) (xs : List A) (b : Bool) → is_some (first (filter p xs)) ≡ list_any p xs → is_some (first (cond b (x ∷ filter p xs) (filter p xs))) ≡ (b || list_any p xs)
one_front p x xs true e = refl
one_front p x xs false e = e

pub any_first : {A : Type 0} (p : A → Bool) (xs : List A) → is_some (first (filter p xs)) ≡ list_any p xs
any_first p [] = refl
any_first p (x ∷ xs) = one_front p x xs (p x) (any_first p xs)

-- ---- what is owed

first_is_owed : (c : Inputs) (s : State) (r : Option Owed) → OwedLaws → r ≡ first_owed c s → is_some r ≡ some_owed c s
first_is_owed c s None laws e = sym (laws.none c s (sym e))
first_is_owed c s (Some x) laws e = sym (laws.some c s x (sym e))

some_placed : (x : Option ℕ) (owed : Option Owed) → is_some (placed x owed) ≡ (is_some owed && is_some x)
some_placed None None = refl
some_placed None (Some owed) = refl
some_placed (Some x) None = refl
some_placed (Some x) (Some owed) = refl

pub some_next : (c : Inputs) (s : State) → OwedLaws → is_some (next_enter c s) ≡ (some_owed c s && list_any (is_free s) all_contexts)
some_next c s laws =
    some_placed (first_free s) (first_owed c s)
    ∙ (λ i. first_is_owed c s (first_owed c s) laws refl i && any_first (is_free s) all_contexts i)

-- as it is computed
some_map : {A B : Type 0} (f : A → B) (r : Option A) → is_some r ≡ is_some (option_map f r)
some_map f None = refl
some_map f (Some x) = refl

pub some_enters : (c : Inputs) (s : State) (r : Option (CtxNo × Owed)) → OwedLaws → option_map (λ e. (e.0.0, e.1)) r ≡ next_enter c s → is_some r ≡ (some_owed c s && list_any (is_free s) all_contexts)
some_enters c s r laws is = some_map (λ e. (e.0.0, e.1)) r ∙ ap is_some is ∙ some_next c s laws
