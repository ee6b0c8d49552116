use Rattle.run_facts.proofs.Counts.{counts}
use Rattle.run_facts.proofs.laws.lists_keep_their_lengths.Goals as goal

pub returns : goal.returns
returns c = counts c.stops_may_stand.ensures.adapters
