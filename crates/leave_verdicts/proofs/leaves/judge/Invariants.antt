use Rattle.leave_verdicts.proofs.leaves.judge.Given as goal

abbrev pub ghost-drawn_from : goal.ghost-drawn_from
ghost-drawn_from g a = g.o.state

abbrev pub ghost-entry_verdict : goal.ghost-entry_verdict
ghost-entry_verdict g a = g.o
