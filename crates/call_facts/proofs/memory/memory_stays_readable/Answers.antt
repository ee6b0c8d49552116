use Rattle.call_facts.proofs.Kept.{stays}
use Rattle.call_facts.proofs.memory.memory_stays_readable.Goals as goal

pub returns : goal.returns
returns c = stays c.write_laws.ensures c.calls_keep.ensures c.runs_go_on.ensures
