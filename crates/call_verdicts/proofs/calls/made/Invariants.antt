use Rattle.call_verdicts.proofs.calls.made.Given as goal

abbrev pub ghost-served : goal.ghost-served
ghost-served g a = g.s
