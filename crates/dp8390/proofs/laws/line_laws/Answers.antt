use Rattle.dp8390.proofs.LineLaws.{line_laws}
use Rattle.dp8390.proofs.laws.line_laws.Goals as goal

pub returns : goal.returns
returns c = line_laws
