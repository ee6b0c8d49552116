use Rattle.run_rests.proofs.waiting.waits_or_is_done.Given as goal

abbrev pub ghost-waits : goal.ghost-waits
ghost-waits g a = g.s
