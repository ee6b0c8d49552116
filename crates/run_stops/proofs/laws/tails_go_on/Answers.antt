use Rattle.run_stops.proofs.Endings.{goes_on_by}
use Rattle.run_stops.proofs.laws.tails_go_on.Goals as goal

pub returns : goal.returns
returns c = goes_on_by c.duties_are_served.ensures
