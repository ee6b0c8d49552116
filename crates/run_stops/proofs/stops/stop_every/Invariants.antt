use Rattle.run_stops.specs.Stopping.{StopsOn}
use Rattle.run_stops.proofs.stops.stop_every.Given as goal

abbrev pub ghost-stop_if_due : goal.ghost-stop_if_due
ghost-stop_if_due g a = g.c

abbrev pub invariant-loop-n : goal.invariant-loop-n
invariant-loop-n g l = StopsOn g.c l.n l.fn.cause l.fn.run l.run
