use Rattle.dp8390.proofs.WholeLaws.{whole_laws}
use Rattle.dp8390.proofs.laws.whole_laws.Goals as goal

pub returns : goal.returns
returns c = whole_laws
