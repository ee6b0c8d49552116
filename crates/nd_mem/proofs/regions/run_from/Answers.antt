use Rattle.std.proofs.Common.{ap, ◌∙◌, sym, subst, List, ℕ, drop}
use Rattle.std.proofs.lemmas.List.{take_rest}
use Rattle.nd_mem.specs.Regions.{IsRun, access_of, cells_of}
use Rattle.nd_mem.proofs.RegionList.{IsRun-spot}
use Rattle.nd_mem.proofs.regions.run_from.Goals as goal

pub returns-clause-ok : goal.returns-clause-ok
returns-clause-ok c =
    let regions = c.args.regions.now in
    let spot = c.in_ok-spot.spot in
    let run = IsRun-spot (access_of c.args.purpose) regions c.args.at.0 spot c.index-regions-spot.result c.requires c.in_ok-spot.ensures.ok c.index-regions-spot.is in
    subst (λ (bytes : List ℕ). IsRun (access_of c.args.purpose) (cells_of regions) c.args.at.0 bytes)
    (ap (drop spot.offset) (ap (λ r. r.bytes.items) c.index-regions-spot.is ∙ sym c.deref.ensures.value) ∙ sym (take_rest c.deref.result.now spot.offset))
    run
