use Rattle.run_moves.proofs.Told.{IsTold, seen}
use Rattle.run_moves.proofs.stops.tell_bound.Given as goal

abbrev pub ghost-speak : goal.ghost-speak
ghost-speak g a = seen g.s a.self.now

abbrev pub invariant-loop-n : goal.invariant-loop-n
invariant-loop-n g l = IsTold g.s l.fn.a.0 l.n l.course
