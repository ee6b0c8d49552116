use Rattle.verdict_parts.proofs.slots.slot_status.Given as goal

abbrev pub ghost-slot_address : goal.ghost-slot_address
ghost-slot_address g a = g.s

abbrev pub ghost-status_at : goal.ghost-status_at
ghost-status_at g a = g.s
