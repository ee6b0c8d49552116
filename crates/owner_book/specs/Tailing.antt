-- The tail of a stop, while it is written.
use Rattle.std.specs.Prelude.{◌≡◌, ◌+◌, true, List, [], ◌∷◌, ◌++◌, Some}
use Rattle.nd_base.specs.declared.numbers.AdapterNo.{AdapterNo}
use Rattle.call_log.specs.declared.entry.Entry.{Entry}
use Rattle.call_log.specs.Logs.{State}
use Rattle.owner_machine.specs.declared.rows.Next.TheVariants.{Tail}
use Rattle.owner_machine.specs.State.{Owner}
use Rattle.owner_machine.specs.Handlers.{outstanding}
use Rattle.owner_machine.specs.Must.{Due, owner_must, serves}
use Rattle.owner_machine.specs.Machine.{after}
use Rattle.owner_book.specs.Stopping.{Serves}

-- one entry of it
pub record EndsOne (o : Owner) (adapter : AdapterNo) (log grown : State) (n : Owner) : Type 0 where
  pub due : Due
  pub entry : Entry
  pub must : owner_must o ≡ Some due
  pub serves : serves o due entry ≡ true
  pub after : n ≡ after o entry
  pub written : grown.entries ≡ log.entries ++ entry ∷ []
  pub spare : grown.spare + 1 ≡ log.spare
  pub next : n.next ≡ Tail adapter
  pub falls : outstanding n adapter.0 + 1 ≡ outstanding o adapter.0

-- some entries of it
pub record Tails (o : Owner) (adapter : AdapterNo) (log grown : State) (n : Owner) : Type 0 where
  pub tail : List Entry
  pub served : Serves o tail n
  pub written : grown.entries ≡ log.entries ++ tail
  pub next : n.next ≡ Tail adapter
  pub spare : grown.spare + outstanding o adapter.0 ≡ log.spare + outstanding n adapter.0
