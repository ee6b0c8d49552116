use Rattle.run_duties.proofs.Stops.{adapters_now, handlers_now, stop_goes_on}
use Rattle.run_duties.proofs.laws.stops_may_stand.Goals as goal

pub returns : goal.returns
returns c = record { adapters = adapters_now; handlers = handlers_now; stops = stop_goes_on }
