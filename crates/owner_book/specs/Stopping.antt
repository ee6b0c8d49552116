-- The stop of an adapter, and its tail.
use Rattle.std.specs.Prelude.{◌≡◌, ℕ, ◌+◌, true, not, List, [], ◌∷◌, ◌++◌, Some, None, sum_by}
use Rattle.nd_base.specs.declared.numbers.AdapterNo.{AdapterNo}
use Rattle.log_fields.specs.declared.field_values.Cause.{Cause}
use Rattle.call_log.specs.declared.entry.Entry.{Entry}
use Rattle.call_log.specs.declared.entry.Entry.TheVariants as entries
use Rattle.owner_machine.specs.State.{Owner, is_stopped, numbers_from}
use Rattle.owner_machine.specs.Handlers.{outstanding}
use Rattle.owner_machine.specs.Must.{Due, owner_must, serves}
use Rattle.owner_machine.specs.Machine.{after}

-- entries of which each is what must stand behind those before it, from one state to another
pub data Serves : Owner → List Entry → Owner → Type 0 where
  Begins : (o : Owner) → Serves o [] o
  Then : (o m : Owner) (es : List Entry) (due : Due) (e : Entry) → Serves o es m → owner_must m ≡ Some due → serves m due e ≡ true → Serves o (es ++ e ∷ []) (after m e)

-- the log grows by the stop and by what must stand behind it, until nothing must
pub record Stops (o : Owner) (adapter : AdapterNo) (cause : Cause) (log grown : List Entry) (n : Owner) : Type 0 where
  pub tail : List Entry
  pub served : Serves (after o (entries.Stop adapter cause)) tail n
  pub over : owner_must n ≡ None
  pub written : grown ≡ log ++ entries.Stop adapter cause ∷ tail

-- how many entries it takes to stop every adapter that is not Stopped
abbrev pub stop_room : Owner → ℕ
stop_room o = sum_by (λ a. 1 + outstanding o a) (numbers_from 0 (λ row. not (is_stopped row.phase)) o.adapters)
