use Rattle.std.proofs.Common.{length}
use Rattle.nd_mem.proofs.regions.+write_runs.Given as goal

abbrev pub decreases-write_runs : goal.decreases-write_runs
decreases-write_runs l = length l.bytes.now
