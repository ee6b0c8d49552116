use Rattle.loan_facts.proofs.Course.{back_lives}
use Rattle.loan_facts.proofs.laws.back_is_live.Goals as goal

pub returns : goal.returns
returns c = back_lives c.entry_laws.ensures.asked
