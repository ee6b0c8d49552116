use Rattle.std.proofs.Common.{◌∙◌, ap, arith, sym}
use Rattle.std.proofs.lemmas.Result.{err_from_is_err_and}
use Rattle.nd_mem.specs.Space.{fault_in}
use Rattle.nd_mem.specs.Regions.{cells_of, access_of}
use Rattle.nd_mem.proofs.RegionList.{found_at, spot_found, holds-true, fault_below, fault_refused, cells_of-unheld}
use Rattle.nd_mem.proofs.regions.spot_of.Goals as goal

pub returns-in_default-clause-err : goal.returns-in_default-clause-err
returns-in_default-clause-err c =
    fault_below (access_of c.args.purpose) (cells_of c.args.regions.now) c.args.at.0 (omega arith)
    ∙ ap (fault_in (access_of c.args.purpose) c.args.at) (cells_of-unheld c.args.regions.now c.args.at.0 (sym c.in_default.ensures))

pub returns-in_err-check-clause-err : goal.returns-in_err-check-clause-err
returns-in_err-check-clause-err c =
    let found = found_at c.args.regions.now c.args.at.0 c.in-Some.index c.index-regions-index.result c.index-regions-index.is c.in-Some.ensures in
    let p = err_from_is_err_and c.from_residual.result c.from_residual.ensures.1 in
    rw (p.1, p.2) (fault_refused (access_of c.args.purpose) (cells_of c.args.regions.now) c.args.at.0 c.index-regions-index.result _ (omega arith) found.2 c.in_err-check.ensures)

pub overflow_sub-result : goal.overflow_sub-result
overflow_sub-result c =
    let found = found_at c.args.regions.now c.args.at.0 c.in-Some.index c.index-regions-index.result c.index-regions-index.is c.in-Some.ensures in
    (holds-true c.index-regions-index.result c.args.at.0 found.1).0

pub returns-clause-ok : goal.returns-clause-ok
returns-clause-ok c =
    let found = found_at c.args.regions.now c.args.at.0 c.in-Some.index c.index-regions-index.result c.index-regions-index.is c.in-Some.ensures in
    spot_found (access_of c.args.purpose) c.args.regions.now c.args.at.0 c.in-Some.index c.index-regions-index.result _ c.index-regions-index.is found.0 found.1 c.in_ok-check.ensures
