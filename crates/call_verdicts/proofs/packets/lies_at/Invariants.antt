use Rattle.call_verdicts.proofs.packets.lies_at.Given as goal

abbrev pub ghost-slot_address : goal.ghost-slot_address
ghost-slot_address g a = g.s
