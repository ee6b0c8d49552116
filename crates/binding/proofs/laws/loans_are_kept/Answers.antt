use Rattle.binding.proofs.Keeping.{loans_kept}
use Rattle.binding.proofs.laws.loans_are_kept.Goals as goal

pub returns : goal.returns
returns g c = loans_kept g.P.Protocol.meaning g.met.P.Protocol.lawful
