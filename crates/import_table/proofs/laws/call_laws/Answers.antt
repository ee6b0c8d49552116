use Rattle.import_table.proofs.CallFacts.{call_facts}
use Rattle.import_table.proofs.laws.call_laws.Goals as goal

pub returns : goal.returns
returns c = call_facts
