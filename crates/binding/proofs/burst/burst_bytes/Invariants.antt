use Rattle.std.proofs.Common.{◌≡◌}
use Rattle.binding.proofs.Bursts.{upto}
use Rattle.binding.proofs.burst.burst_bytes.Given as goal

abbrev pub invariant-loop-offset : goal.invariant-loop-offset
invariant-loop-offset l = l.bytes ≡ upto l.mac l.index l.offset
