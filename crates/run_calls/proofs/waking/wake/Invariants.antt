use Rattle.run_stops.specs.Standing.{point_of}
use Rattle.run_calls.proofs.waking.wake.Given as goal

abbrev pub ghost-resumption_of : goal.ghost-resumption_of
ghost-resumption_of g a = point_of g.c a.run.now

abbrev pub ghost-reply_whole : goal.ghost-reply_whole
ghost-reply_whole g a = g.c
