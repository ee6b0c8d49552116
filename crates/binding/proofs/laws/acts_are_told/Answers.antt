use Rattle.binding.proofs.Acts.{acts_told}
use Rattle.binding.proofs.laws.acts_are_told.Goals as goal

pub returns : goal.returns
returns g c = acts_told g.P.Protocol.meaning
