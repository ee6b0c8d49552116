use Rattle.run_stops.proofs.Endings.{adds}
use Rattle.run_stops.proofs.laws.moves_add.Goals as goal

pub returns : goal.returns
returns c = adds
