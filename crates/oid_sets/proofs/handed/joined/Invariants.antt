use Rattle.oid_sets.proofs.handed.joined.Given as goal

abbrev pub ghost-add_lists : goal.ghost-add_lists
ghost-add_lists g a = g.s
