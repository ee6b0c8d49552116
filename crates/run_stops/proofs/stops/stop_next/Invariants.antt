use Rattle.run_stops.proofs.stops.stop_next.Given as goal

abbrev pub ghost-stop_whole : goal.ghost-stop_whole
ghost-stop_whole g a = g.c
