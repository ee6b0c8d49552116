use Rattle.notices.proofs.places.Place.take.Given as goal

abbrev pub ghost-next : goal.ghost-next
ghost-next g a = g.c
