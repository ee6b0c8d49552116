use Rattle.std.proofs.Common.{◌+◌, ap, ◌∙◌, sym, arith}
use Rattle.nd_mem.specs.Space.{Cells, region_refusal}
use Rattle.nd_mem.specs.Regions.{cells_of}
use Rattle.nd_mem.proofs.Mapped.{cells_seen}
use Rattle.nd_mem.proofs.SpaceLaws.{region_taken, region_overlaps_at}
use Rattle.nd_mem.proofs.Memory.region_refusal.Goals as goal

pub returns-then-first-end : goal.returns-then-first-end
returns-then-first-end c =
    let seen = cells_seen c.deref.result.now c.self.inside.regions.items c.args.self.now c.self.view_is c.deref.ensures.value c.self.invariant in
    let found = c.first_held-first.ensures in
    sym (ap (λ (f : Cells). region_refusal f c.args.at.0 c.args.len) seen
    ∙ region_overlaps_at (cells_of c.deref.result.now) c.args.at.0 c.args.len c.first_held-first.result (omega arith) found.low (omega arith) found.before (found.here c.if-first-end.true))

pub returns : goal.returns
returns c =
    let seen = cells_seen c.deref.result.now c.self.inside.regions.items c.args.self.now c.self.view_is c.deref.ensures.value c.self.invariant in
    sym (ap (λ (f : Cells). region_refusal f c.args.at.0 c.args.len) seen
    ∙ region_taken (cells_of c.deref.result.now) c.args.at.0 c.args.len (omega arith) (λ k less. c.first_held-first.ensures.before (c.args.at.0 + k) (omega arith) (omega arith)))
