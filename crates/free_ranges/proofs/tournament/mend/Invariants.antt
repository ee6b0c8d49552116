use Rattle.std.proofs.Common.{◌≡◌, ◌≤◌, ◌<◌, ◌*◌, ◌/◌, drop}
use Rattle.free_ranges.specs.Tournament.{IsTournamentBut}
use Rattle.free_ranges.proofs.tournament.mend.Given as goal

abbrev pub invariant-loop-node : goal.invariant-loop-node
invariant-loop-node l = record {
  some : 1 ≤ l.node;
  inside : l.node < 2 * l.places;
  but : IsTournamentBut l.places l.nodes (l.node / 2);
  view : drop l.places l.nodes ≡ drop l.places l.fn.nodes;
}

abbrev pub decreases-loop-node : goal.decreases-loop-node
decreases-loop-node l = l.node
