use Rattle.run_facts.proofs.Runs.{begins, goes}
use Rattle.run_facts.proofs.laws.runs_go_on.Goals as goal

pub returns : goal.returns
returns c = record { begins = begins; goes = goes }
