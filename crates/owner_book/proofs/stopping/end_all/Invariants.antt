use Rattle.std.proofs.Common.{◌≤◌}
use Rattle.owner_machine.specs.Handlers.{outstanding}
use Rattle.owner_rules.specs.State.{owner_of}
use Rattle.owner_book.specs.Tailing.{Tails}
use Rattle.owner_book.proofs.stopping.end_all.Given as goal

abbrev pub invariant-endings : goal.invariant-endings
invariant-endings l = record {
  tails : Tails (owner_of l.initial.ledger) l.adapter l.initial.log l.log (owner_of l.ledger);
  room : outstanding (owner_of l.ledger) l.adapter.0 ≤ l.log.spare;
}

abbrev pub decreases-endings : goal.decreases-endings
decreases-endings l = outstanding (owner_of l.ledger) l.adapter.0
