use Rattle.call_facts.proofs.RowCosts.{now, one}
use Rattle.call_facts.proofs.Costing.{answers}
use Rattle.call_facts.proofs.costs.costs_are_small.Goals as goal

pub returns : goal.returns
returns c = record { now = now; waited = λ import al. one; answers = answers }
