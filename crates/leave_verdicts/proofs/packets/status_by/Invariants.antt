use Rattle.leave_verdicts.proofs.packets.status_by.Given as goal

abbrev pub ghost-slot_status : goal.ghost-slot_status
ghost-slot_status g a = g.s
