use Rattle.oid_sets.proofs.handed.list_bytes.Given as goal

abbrev pub ghost-drivers_of : goal.ghost-drivers_of
ghost-drivers_of g a = g.s

abbrev pub ghost-joined : goal.ghost-joined
ghost-joined g a = g.s
