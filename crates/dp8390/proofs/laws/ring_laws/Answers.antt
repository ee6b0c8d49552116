use Rattle.dp8390.proofs.RingLaws.{ring_laws}
use Rattle.dp8390.proofs.laws.ring_laws.Goals as goal

pub returns : goal.returns
returns c = ring_laws
