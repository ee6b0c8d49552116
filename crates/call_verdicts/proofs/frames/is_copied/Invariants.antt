use Rattle.call_verdicts.proofs.frames.is_copied.Given as goal

abbrev pub ghost-status_at : goal.ghost-status_at
ghost-status_at g a = g.s
