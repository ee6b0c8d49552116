-- What comes first is owed; and where nothing comes first, nothing is owed.
use Rattle.std.specs.Prelude.{◌≡◌, true, false, Some, None}
use Rattle.legal_run.specs.State.{Inputs, State}
use Rattle.legal_run.specs.Owed.{is_owed, owes_entry, some_owed}
use Rattle.owed_handlers.specs.declared.choice.Owed.{Owed}
use Rattle.owed_handlers.specs.declared.choice.Owed.TheVariants as owed
use Rattle.owed_handlers.specs.Order.{first_owed}
use Rattle.std.specs.Prelude.{◌<◌, length}

-- an adapter that is there owes it, or DriverEntry is owed
abbrev pub IsOwed : Inputs → State → Owed → Type 0
IsOwed c s owed.Entry = owes_entry c s ≡ true
IsOwed c s (owed.Handler a h) = (a.0 < length c.adapters) × (is_owed c s a.0 h ≡ true)

pub record OwedLaws : Type 0 where
  pub owed : (c : Inputs) (s : State) (x : Owed) → first_owed c s ≡ Some x → IsOwed c s x
  pub some : (c : Inputs) (s : State) (x : Owed) → first_owed c s ≡ Some x → some_owed c s ≡ true
  pub none : (c : Inputs) (s : State) → first_owed c s ≡ None → some_owed c s ≡ false
