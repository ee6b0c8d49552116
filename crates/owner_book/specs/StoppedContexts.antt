-- One context where an adapter stops.
use Rattle.std.specs.Prelude.{ℕ, Bool, true, false, ◌&&◌, ◌||◌, cond, None}
use Rattle.owner_machine.specs.declared.rows.Context.{Context}
use Rattle.owner_machine.specs.declared.rows.Context.TheVariants.{Free, Open}
use Rattle.owner_machine.specs.Contexts.{runs, any_handler}

-- the context runs DriverEntry
abbrev pub runs_entry : Context → Bool
runs_entry (Open None _ _ _) = true
runs_entry _ = false

abbrev pub context_stopped : (a : ℕ) → (all : Bool) → Context → Context
context_stopped a all x = cond (runs any_handler a x || (all && runs_entry x)) Free x
