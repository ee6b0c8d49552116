use Rattle.std.proofs.Common.{◌≤◌, ◌<◌, ◌*◌, ◌-◌, ◌^◌, ◌≡◌, ℕ, get_or}
use Rattle.free_ranges.proofs.TournamentLemmas.{HasPassed}
use Rattle.free_ranges.proofs.tournament.leaf_not_below.Given as goal

abbrev pub invariant-loop-node : goal.invariant-loop-node
invariant-loop-node l = record {
  some : 1 ≤ l.node;
  inside : l.node < 2 * l.places;
  won : l.bound ≤ get_or l.nodes l.node 0;
  passed : (k : ℕ) → l.places ≡ 2 ^ k → HasPassed l.places l.nodes l.bound l.node;
}

abbrev pub decreases-loop-node : goal.decreases-loop-node
decreases-loop-node l = 2 * l.places - l.node
