use Rattle.legal_run.proofs.Between.{nothing_between}
use Rattle.legal_run.proofs.laws.nothing_stands_between.Goals as goal

pub returns : goal.returns
returns c = nothing_between
