use Rattle.run_facts.proofs.Periods.{short}
use Rattle.run_facts.proofs.laws.periods_are_short.Goals as goal

pub returns : goal.returns
returns c = short
