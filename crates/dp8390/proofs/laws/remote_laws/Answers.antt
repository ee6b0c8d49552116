use Rattle.dp8390.proofs.CardLaws.{remote_laws}
use Rattle.dp8390.proofs.laws.remote_laws.Goals as goal

pub returns : goal.returns
returns c = remote_laws
