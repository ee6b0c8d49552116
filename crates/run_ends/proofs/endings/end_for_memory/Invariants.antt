use Rattle.run_stops.specs.Standing.{point_of}
use Rattle.run_ends.specs.Ending.{EndsOn}
use Rattle.run_ends.proofs.endings.end_for_memory.Given as goal

abbrev pub ghost-end_if_unfinished : goal.ghost-end_if_unfinished
ghost-end_if_unfinished g a = point_of g.c a.run.now

abbrev pub invariant-loop-n : goal.invariant-loop-n
invariant-loop-n g l = EndsOn g.c l.n l.fn.run l.run
