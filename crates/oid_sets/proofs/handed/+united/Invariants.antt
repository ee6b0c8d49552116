use Rattle.std.proofs.Common.{length}
use Rattle.oid_sets.proofs.handed.+united.Given as goal

abbrev pub decreases-united : goal.decreases-united
decreases-united l = length l.drivers.now
