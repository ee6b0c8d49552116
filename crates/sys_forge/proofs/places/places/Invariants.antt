use Rattle.std.proofs.Common.{◌≡◌, ◌+◌, length}
use Rattle.sys_forge.proofs.Differing.{IsFoundSoFar}
use Rattle.sys_forge.proofs.places.places.Given as goal

abbrev pub invariant-loop-left : goal.invariant-loop-left
invariant-loop-left l = record {
  low : l.at + length l.left ≡ length l.bytes;
  found : IsFoundSoFar l.bytes l.others l.left l.ours l.at l.places.items;
}

abbrev pub decreases-loop-left : goal.decreases-loop-left
decreases-loop-left l = length l.left
