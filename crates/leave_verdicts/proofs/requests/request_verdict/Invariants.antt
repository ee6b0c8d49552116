use Rattle.leave_verdicts.proofs.requests.request_verdict.Given as goal

abbrev pub ghost-verdict_on : goal.ghost-verdict_on
ghost-verdict_on g a = g.s

abbrev pub ghost-request_at : goal.ghost-request_at
ghost-request_at g a = g.s
