use Rattle.call_verdicts.proofs.packets.is_handed_at.Given as goal

abbrev pub ghost-lies_at : goal.ghost-lies_at
ghost-lies_at g a = g.s
