-- Which handler is entered next.
use Rattle.std.specs.Prelude.{ℕ, filter, Option, Some, None}
use Rattle.legal_run.specs.State.{Inputs, State, is_free, all_contexts}
use Rattle.legal_run.specs.Owed.{first}
use Rattle.owed_handlers.specs.declared.choice.Owed.{Owed}
use Rattle.owed_handlers.specs.Order.{first_owed}

abbrev pub first_free : State → Option ℕ
first_free s = first (filter (is_free s) all_contexts)

abbrev pub placed : Option ℕ → Option Owed → Option (ℕ × Owed)
placed (Some x) (Some owed) = Some (x, owed)
placed _ _ = None

-- the owed handler that comes first, with the lowest context that is free
abbrev pub next_enter : Inputs → State → Option (ℕ × Owed)
next_enter c s = placed (first_free s) (first_owed c s)
