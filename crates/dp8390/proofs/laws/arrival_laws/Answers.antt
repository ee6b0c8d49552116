use Rattle.dp8390.proofs.ArrivalLaws.{arrival_laws}
use Rattle.dp8390.proofs.laws.arrival_laws.Goals as goal

pub returns : goal.returns
returns c = arrival_laws
