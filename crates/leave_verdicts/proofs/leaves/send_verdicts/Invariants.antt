use Rattle.leave_verdicts.proofs.leaves.send_verdicts.Given as goal

abbrev pub ghost-packet_verdicts : goal.ghost-packet_verdicts
ghost-packet_verdicts g a = g.s
