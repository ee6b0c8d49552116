use Rattle.call_verdicts.proofs.lendings.status_written.Given as goal

abbrev pub ghost-status_place : goal.ghost-status_place
ghost-status_place g a = g.s
