use Rattle.std.proofs.Common.{length}
use Rattle.nd_mem.proofs.regions.+read_runs.Given as goal

abbrev pub decreases-read_runs : goal.decreases-read_runs
decreases-read_runs l = length l.out.now
