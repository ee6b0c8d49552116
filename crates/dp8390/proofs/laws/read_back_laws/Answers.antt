use Rattle.dp8390.proofs.CardLaws.{read_back_laws}
use Rattle.dp8390.proofs.laws.read_back_laws.Goals as goal

pub returns : goal.returns
returns c = read_back_laws
