use Rattle.run_duties.proofs.Served.{reset_goes_on, answer_goes_on}
use Rattle.run_duties.proofs.laws.ends_may_stand.Goals as goal

pub returns : goal.returns
returns c = record { resets = reset_goes_on c.code_laws.ensures.contexts; answers = answer_goes_on c.code_laws.ensures.contexts }
