use Rattle.dpc_timer.proofs.Armed.{fired_once, fired_again, armed_here, cancelled_here, others_stay}
use Rattle.dpc_timer.proofs.clock_laws.timer_laws.Goals as goal

pub returns : goal.returns
returns _ = record { once = fired_once; again = fired_again; armed = armed_here; cancelled = cancelled_here; others = others_stay }
