use Rattle.legal_run.proofs.Behind.{call_stops, leave_stops, fault_stops, turn_stops, reply_stops}
use Rattle.legal_run.proofs.Causes.{stop_cause, reason}
use Rattle.legal_run.proofs.kinds.cause_laws.Goals as goal

pub returns : goal.returns
returns c = record { stops = stop_cause; reasons = reason; call = call_stops; leave = leave_stops; fault = fault_stops; turn = turn_stops; reply = reply_stops }
