-- What a driver hears and says.
use Rattle.std.specs.Prelude.{ℕ, true, List, Some, None, slice_set, slice_index_or}
use Rattle.log_fields.specs.declared.field_values.Condition.{Condition}
use Rattle.legal_run.specs.State.{Hearing, silent}

abbrev pub spoken : Hearing → Hearing
spoken h = record h { awaits = None }

abbrev pub awaiting : Condition → Hearing → Hearing
awaiting what h = record h { awaits = Some what }

abbrev pub ended : Hearing → Hearing
ended h = record h { awaits = None; done = true }

-- the driver of a number, changed
abbrev pub heard : (Hearing → Hearing) → List Hearing → ℕ → List Hearing
heard change drivers b = slice_set drivers b (change (slice_index_or drivers b silent))
