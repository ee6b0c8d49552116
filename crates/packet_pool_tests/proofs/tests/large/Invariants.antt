use Rattle.std.specs.FinMap as map
use Rattle.packet_pool.specs.DescriptorBytes.{HasGuestPool}
use Rattle.packet_pool_tests.proofs.tests.large.Given as goal

abbrev pub invariant-loop-k : goal.invariant-loop-k
invariant-loop-k l = HasGuestPool (map.get l.memory)
