use Rattle.owner_machine.specs.Handlers.{outstanding}
use Rattle.run_stops.specs.Standing.{point_of}
use Rattle.run_stops.specs.Stopping.{owner_of}
use Rattle.run_stops.proofs.Endings.{IsEnding}
use Rattle.run_stops.proofs.tails.stop_whole.Given as goal

abbrev pub ghost-stop : goal.ghost-stop
ghost-stop g a = point_of g.c a.self.now

abbrev pub ghost-end_one : goal.ghost-end_one
ghost-end_one g a = g.c

abbrev pub invariant-endings : goal.invariant-endings
invariant-endings g l = IsEnding g.c l.fn.a l.fn.cause l.fn.run l.run

abbrev pub decreases-endings : goal.decreases-endings
decreases-endings g l = outstanding (owner_of g.c l.run) l.fn.a.0
