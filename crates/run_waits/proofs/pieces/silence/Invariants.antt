use Rattle.run_waits.proofs.pieces.silence.Given as goal

abbrev pub ghost-stop_whole : goal.ghost-stop_whole
ghost-stop_whole g a = g.c
