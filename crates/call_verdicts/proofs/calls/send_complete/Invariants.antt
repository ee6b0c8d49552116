use Rattle.call_verdicts.proofs.calls.send_complete.Given as goal

abbrev pub ghost-handed_at : goal.ghost-handed_at
ghost-handed_at g a = g.s

abbrev pub ghost-completion : goal.ghost-completion
ghost-completion g a = g.s
