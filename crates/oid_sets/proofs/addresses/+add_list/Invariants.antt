use Rattle.std.proofs.Common.{length}
use Rattle.oid_sets.proofs.addresses.+add_list.Given as goal

abbrev pub decreases-add_list : goal.decreases-add_list
decreases-add_list l = length l.list.now
