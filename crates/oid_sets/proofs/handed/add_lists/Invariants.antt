use Rattle.std.proofs.Common.{◌≡◌, ◌==◌, if◌then◌else◌, take}
use Rattle.std.specs.List.{flat_map}
use Rattle.legal_run.specs.Enters.{addresses, list_of}
use Rattle.oid_sets.specs.Joins.{all_added}
use Rattle.oid_sets.proofs.handed.add_lists.Given as goal

abbrev pub invariant-loop-d : goal.invariant-loop-d
invariant-loop-d g l = l.there.items ≡ all_added l.fn.there.items (flat_map (λ d. addresses (if d == l.fn.b.0 then l.fn.list else list_of g.s d)) (take l.d-index l.drivers))

abbrev pub ghost-list_of : goal.ghost-list_of
ghost-list_of g a = g.s
