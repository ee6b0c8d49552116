use Rattle.std.proofs.Common.{◌≡◌, ◌*◌, ◌-◌, ◌++◌, take}
use Rattle.import_answers.specs.Ports.{reads}
use Rattle.calls_ports.proofs.accesses.read_each.Given as goal

abbrev pub invariant-loop-access : goal.invariant-loop-access
invariant-loop-access l = record {
  at : l.at ≡ l.width * l._access;
  bytes : (reads l.initial.card l.port l.width l.count).0 ≡ take l.at l.out ++ (reads l.card l.port l.width (l.count - l._access)).0;
  card : (reads l.initial.card l.port l.width l.count).1 ≡ (reads l.card l.port l.width (l.count - l._access)).1;
  sent : l.card.sent ≡ l.initial.card.sent;
}
