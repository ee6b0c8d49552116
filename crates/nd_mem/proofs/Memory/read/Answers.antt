use Rattle.std.proofs.Common.{◌≡◌, ap, ◌∙◌, sym, subst, length, OnOk}
use Rattle.nd_mem.specs.Space.{Cells, Reading, first_fault, answer_of, bytes_from}
use Rattle.nd_mem.proofs.Mapped.{cells_seen, low_seen}
use Rattle.nd_mem.proofs.Memory.read.Goals as goal

pub returns-clause-answer : goal.returns-clause-answer
returns-clause-answer c =
    let seen = cells_seen c.deref.result.now c.self.inside.regions.items c.args.self.now c.self.view_is c.deref.ensures.value c.self.invariant in
    c.read_runs.ensures.answer ∙ ap (λ (f : Cells). answer_of (tt {0}) (first_fault Reading f c.args.at.0 (length c.args.out.now))) (sym seen)

pub returns-clause-ok : goal.returns-clause-ok
returns-clause-ok c =
    let seen = cells_seen c.deref.result.now c.self.inside.regions.items c.args.self.now c.self.view_is c.deref.ensures.value c.self.invariant in
    subst (λ (f : Cells). OnOk c.read_runs.result (c.read_runs.new.out ≡ bytes_from f c.args.at.0 (length c.args.out.now))) (sym seen) c.read_runs.ensures.ok

pub returns-clause-low : goal.returns-clause-low
returns-clause-low c = low_seen c.self.inside.regions.items c.args.self.now c.self.view_is c.self.invariant
