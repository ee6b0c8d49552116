use Rattle.run_stops.proofs.Several.{free_state}
use Rattle.run_stops.proofs.laws.states_are_free.Goals as goal

pub returns : goal.returns
returns c = free_state
