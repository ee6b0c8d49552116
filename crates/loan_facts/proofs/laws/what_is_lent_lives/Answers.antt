use Rattle.loan_facts.proofs.Course.{lives, stand_apart, indicated}
use Rattle.loan_facts.proofs.laws.what_is_lent_lives.Goals as goal

pub returns : goal.returns
returns c = let asked = c.entry_laws.ensures.asked in record { lives = lives asked; apart = stand_apart asked; indicated = indicated asked }
