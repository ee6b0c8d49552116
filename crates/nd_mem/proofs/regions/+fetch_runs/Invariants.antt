use Rattle.std.proofs.Common.{length}
use Rattle.nd_mem.proofs.regions.+fetch_runs.Given as goal

abbrev pub decreases-fetch_runs : goal.decreases-fetch_runs
decreases-fetch_runs l = length l.out.now
