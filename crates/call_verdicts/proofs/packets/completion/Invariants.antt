use Rattle.call_verdicts.proofs.packets.completion.Given as goal

abbrev pub ghost-ending_of : goal.ghost-ending_of
ghost-ending_of g a = g.s
