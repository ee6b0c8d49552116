-- The rows that are kept, as a state of the owner machine.
use Rattle.owner_machine.specs.State.{Owner}
use Rattle.owner_rules.specs.declared.ledger.Ledger.{Ledger}

abbrev pub owner_of : Ledger → Owner
owner_of l = record {
  packets = l.packets;
  loans = l.loans;
  requests = l.requests;
  adapters = l.adapters.items;
  drivers = l.drivers.items;
  contexts = l.contexts;
  cancelsend = l.cancelsend;
  pnpevent = l.pnpevent;
  enters = l.enters;
  next = l.next;
}
