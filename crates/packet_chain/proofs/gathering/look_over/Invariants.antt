use Rattle.std.proofs.Common.{◌≡◌, ◌≤◌, ◌+◌, ◌-◌}
use Rattle.std.specs.FinMap as map
use Rattle.nd_mem.specs.Space.{first_fault, Reading}
use Rattle.packet_chain.proofs.gathering.look_over.Given as goal

abbrev pub invariant-loop-done : goal.invariant-loop-done
invariant-loop-done l = record {
  inside : l.done ≤ l.count;
  left : first_fault Reading (map.get l.memory) (l.at.0 + l.done) (l.count - l.done) ≡ first_fault Reading (map.get l.memory) l.at.0 l.count;
}

abbrev pub decreases-loop-done : goal.decreases-loop-done
decreases-loop-done l = l.count - l.done
