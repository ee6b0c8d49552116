use Rattle.call_verdicts.proofs.lendings.told.Given as goal

abbrev pub ghost-is_copied : goal.ghost-is_copied
ghost-is_copied g a = g.s

abbrev pub ghost-status_written : goal.ghost-status_written
ghost-status_written g a = g.s
