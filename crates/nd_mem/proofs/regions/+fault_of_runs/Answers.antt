use Rattle.std.proofs.Common.{◌≡◌, ◌-◌, ◌<◌, sym, ◌∙◌, arith}
use Rattle.std.proofs.lemmas.Bool.Decides.{nat_tests}
use Rattle.nd_mem.specs.Regions.{cells_of, access_of}
use Rattle.nd_mem.proofs.Runs.{fault_behind, fault_first, fault_of_none}
use Rattle.nd_mem.proofs.regions.+fault_of_runs.Goals as goal

pub returns-then-len-eq0 : goal.returns-then-len-eq0
returns-then-len-eq0 t c =
    let none : c.args.len ≡ 0 = grind (arith, nat_tests, c.if-len-eq0.true) in
    sym (fault_of_none (access_of c.args.purpose) (cells_of c.args.regions.now) c.args.at.0 c.args.len none)

pub returns-in-Ok : goal.returns-in-Ok
returns-in-Ok t c =
    let count = c.min-count.result in
    c.fault_of_runs.ensures
    ∙ sym (fault_behind (access_of c.args.purpose) (cells_of c.args.regions.now) c.args.at.0 c.in-Ok.run'.now count (c.args.len - count) c.args.len c.in-Ok.ensures.ok (omega arith) (omega arith))

pub returns-in-Err : goal.returns-in-Err
returns-in-Err t c =
    let some : 0 < c.args.len = grind (arith, nat_tests, c.if-len-eq0.false) in
    sym (fault_first (access_of c.args.purpose) (cells_of c.args.regions.now) c.args.at.0 c.args.len c.in-Err.fault c.in-Err.ensures.err some)
