use Rattle.std.proofs.Common.{◌≡◌, ◌+◌, ◌*◌, ◌≤◌}
use Rattle.owner_rows.specs.Kept.{most_rows}
use Rattle.owner_rules.specs.State.{owner_of}
use Rattle.owner_book.specs.Stopping.{stop_room}
use Rattle.owner_book.proofs.Rooms.{left_room}
use Rattle.owner_book.proofs.stopping.stop_room.Given as goal

abbrev pub invariant-loop-a : goal.invariant-loop-a
invariant-loop-a l = record {
  all : l.room + left_room (owner_of l.ledger) l.a ≡ stop_room (owner_of l.ledger);
  few : l.room ≤ l.a * (1 + 3 * most_rows);
}
