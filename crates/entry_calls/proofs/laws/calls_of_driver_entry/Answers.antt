use Rattle.entry_calls.proofs.Rows.{outcome_serves}
use Rattle.entry_calls.proofs.laws.calls_of_driver_entry.Goals as goal

pub returns : goal.returns
returns c = outcome_serves
