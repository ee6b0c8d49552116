use Rattle.nd_mem.proofs.regions.+fault_of_runs.Given as goal

abbrev pub decreases-fault_of_runs : goal.decreases-fault_of_runs
decreases-fault_of_runs l = l.len
