use Rattle.run_stops.proofs.stops.stop_if_due.Given as goal

abbrev pub ghost-stop_next : goal.ghost-stop_next
ghost-stop_next g a = g.c
