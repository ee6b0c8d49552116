use Rattle.run_facts.proofs.Expired.{few_expired}
use Rattle.run_facts.proofs.laws.expirations_are_few.Goals as goal

pub returns : goal.returns
returns c = few_expired
