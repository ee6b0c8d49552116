use Rattle.call_verdicts.proofs.requests.request_end.Given as goal

abbrev pub ghost-handed_request : goal.ghost-handed_request
ghost-handed_request g a = g.s

abbrev pub ghost-request_at : goal.ghost-request_at
ghost-request_at g a = g.s

abbrev pub ghost-answered : goal.ghost-answered
ghost-answered g a = g.s
