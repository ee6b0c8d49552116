-- The state before the first entry, of these adapters and drivers.
use Rattle.std.specs.Prelude.{false, List, [], replicate}
use Rattle.owner_machine.specs.declared.rows.Adapter.{Adapter}
use Rattle.owner_machine.specs.declared.rows.Driver.{Driver}
use Rattle.owner_machine.specs.declared.rows.Context.TheVariants as contexts_
use Rattle.owner_machine.specs.declared.rows.Next.TheVariants as nexts
use Rattle.owner_machine.specs.State.{Owner}

abbrev pub begun : List Adapter → List Driver → Owner
begun adapters drivers = record {
  packets = [];
  loans = [];
  requests = [];
  adapters = adapters;
  drivers = drivers;
  contexts = replicate 16 contexts_.Free;
  cancelsend = false;
  pnpevent = false;
  enters = 0;
  next = nexts.Free;
}
