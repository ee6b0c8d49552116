use Rattle.std.proofs.Common.{◌≡◌, ◌*◌, ◌-◌, ◌++◌, drop, None}
use Rattle.import_answers.specs.Ports.{puts}
use Rattle.calls_ports.proofs.accesses.write_each.Given as goal

abbrev pub invariant-loop-access : goal.invariant-loop-access
invariant-loop-access l = record {
  at : l.at ≡ l.width * l._access;
  frames : l.initial.sent ++ (puts l.initial.card l.port l.width l.bytes l.count).0 ≡ l.sent ++ (puts l.card l.port l.width (drop l.at l.bytes) (l.count - l._access)).0;
  card : (puts l.initial.card l.port l.width l.bytes l.count).1 ≡ (puts l.card l.port l.width (drop l.at l.bytes) (l.count - l._access)).1;
  taken : l.card.sent ≡ None;
}
