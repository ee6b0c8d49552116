use Rattle.oid_sets.proofs.handed.filter_bytes.Given as goal

abbrev pub ghost-drivers_of : goal.ghost-drivers_of
ghost-drivers_of g a = g.s
