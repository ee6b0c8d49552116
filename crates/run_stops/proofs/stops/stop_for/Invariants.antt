use Rattle.run_stops.proofs.stops.stop_for.Given as goal

abbrev pub ghost-stop_next : goal.ghost-stop_next
ghost-stop_next g a = g.c

abbrev pub ghost-stop_every : goal.ghost-stop_every
ghost-stop_every g a = g.c
