use Rattle.std.proofs.Common.{◌∙◌, ap, ◌==◌, if◌then◌else◌, arith, rules}
use Rattle.legal_run.specs.Enters.{addresses, list_of}
use Rattle.oid_sets.specs.Joins.{all_added}
use Rattle.oid_sets.proofs.Joined.{none_added, one_more}
use Rattle.oid_sets.proofs.handed.add_lists.Goals as goal

pub loop-d-init : goal.loop-d-init
loop-d-init g c = none_added c.args.there.now.items

pub loop-d-preserved : goal.loop-d-preserved
loop-d-preserved g c =
    c.in_ok-add_list.ensures ∙ ap (λ list. all_added c.loop-d.there.items (addresses list)) c.list_of.ensures
    ∙ one_more (λ d. addresses (if d == c.args.b.0 then c.args.list.now else list_of g.s d)) c.args.there.now.items c.loop-d.there.items c.args.drivers.now c.loop-d.d-index _ (omega arith) (search rules) c.loop-d.invariant
