use Rattle.leave_verdicts.proofs.leaves.drawn_from.Given as goal

abbrev pub ghost-send_verdicts : goal.ghost-send_verdicts
ghost-send_verdicts g a = g.s

abbrev pub ghost-request_verdict : goal.ghost-request_verdict
ghost-request_verdict g a = g.s

abbrev pub ghost-reset_verdict : goal.ghost-reset_verdict
ghost-reset_verdict g a = g.s

abbrev pub ghost-initialize_verdict : goal.ghost-initialize_verdict
ghost-initialize_verdict g a = g.s
