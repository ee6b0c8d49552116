use Rattle.owner_book.specs.Stopping.{stop_room}
use Rattle.run_stops.specs.Standing.{Lengthens}
use Rattle.run_stops.specs.Stopping.{owner_of}
use Rattle.run_leaves.specs.Leaving.{IsAborting}
use Rattle.run_leaves.proofs.aborts.abort_held.Given as goal

abbrev pub ghost-abort_one : goal.ghost-abort_one
ghost-abort_one g a = g.c

abbrev pub invariant-aborts : goal.invariant-aborts
invariant-aborts g l = IsAborting g.c l.fn.a l.run × Lengthens l.fn.run l.run

abbrev pub decreases-aborts : goal.decreases-aborts
decreases-aborts g l = stop_room (owner_of g.c l.run)
