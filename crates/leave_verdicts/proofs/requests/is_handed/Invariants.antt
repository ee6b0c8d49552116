use Rattle.leave_verdicts.proofs.requests.is_handed.Given as goal

abbrev pub ghost-handed_request : goal.ghost-handed_request
ghost-handed_request g a = g.s
