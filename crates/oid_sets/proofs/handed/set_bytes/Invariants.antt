use Rattle.oid_sets.proofs.handed.set_bytes.Given as goal

abbrev pub ghost-filter_bytes : goal.ghost-filter_bytes
ghost-filter_bytes g a = g.s

abbrev pub ghost-list_bytes : goal.ghost-list_bytes
ghost-list_bytes g a = g.s
