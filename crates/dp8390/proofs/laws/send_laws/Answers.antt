use Rattle.dp8390.proofs.WholeLaws.{send_laws}
use Rattle.dp8390.proofs.laws.send_laws.Goals as goal

pub returns : goal.returns
returns c = send_laws
