use Rattle.std.proofs.Common.{ap, ◌∙◌, sym}
use Rattle.nd_mem.specs.Space.{Cells, first_fault}
use Rattle.nd_mem.specs.Regions.{access_of}
use Rattle.nd_mem.proofs.Mapped.{cells_seen}
use Rattle.nd_mem.proofs.Memory.fault.Goals as goal

pub returns : goal.returns
returns c =
    let seen = cells_seen c.deref.result.now c.self.inside.regions.items c.args.self.now c.self.view_is c.deref.ensures.value c.self.invariant in
    c.fault_of_runs.ensures ∙ ap (λ (f : Cells). first_fault (access_of c.args.purpose) f c.args.at.0 c.args.len) (sym seen)
