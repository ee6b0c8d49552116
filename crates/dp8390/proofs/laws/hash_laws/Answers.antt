use Rattle.dp8390.proofs.CardLaws.{hash_laws}
use Rattle.dp8390.proofs.laws.hash_laws.Goals as goal

pub returns : goal.returns
returns c = hash_laws
