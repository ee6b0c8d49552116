use Rattle.legal_run.proofs.Charges.{charges_sum}
use Rattle.legal_run.proofs.laws.charges_are_sums.Goals as goal

pub returns : goal.returns
returns c = charges_sum
