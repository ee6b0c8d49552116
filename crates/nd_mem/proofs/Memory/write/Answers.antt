use Rattle.std.proofs.Common.{ap, ◌∙◌, sym, length, arith}
use Rattle.std.proofs.lemmas.List.{with_items_is}
use Rattle.nd_mem.specs.Space.{Cells, Writing, first_fault, answer_of}
use Rattle.nd_mem.proofs.Mapped.{cells_seen, low_after, put_seen, length-shapes}
use Rattle.nd_mem.proofs.Memory.write.Goals as goal

pub returns-clause-answer : goal.returns-clause-answer
returns-clause-answer c =
    let seen = cells_seen c.deref_mut.result.now c.self.inside.regions.items c.args.self.now c.self.view_is c.deref_mut.ensures.value c.self.invariant in
    c.write_runs.ensures.answer ∙ ap (λ (f : Cells). answer_of (tt {0}) (first_fault Writing f c.args.at.0 (length c.args.bytes.now))) (sym seen)

pub returns-clause-ok : goal.returns-clause-ok
returns-clause-ok c =
    let vec = c.self.inside.regions in
    let after = c.write_runs.new.regions in
    let len = length-shapes after c.deref_mut.result.now c.write_runs.ensures.shapes ∙ ap length c.deref_mut.ensures.value ∙ sym vec.ok.0 in
    put_seen Writing vec.items c.deref_mut.result.now after _ c.args.self.now c.args.at.0 c.args.bytes.now c.write_runs.result
    c.self.view_is c.deref_mut.ensures.value (with_items_is vec after len) c.self.invariant c.write_runs.ensures.laid_out (omega arith) c.write_runs.ensures.answer c.write_runs.ensures.ok

pub returns-clause-low : goal.returns-clause-low
returns-clause-low c =
    let vec = c.self.inside.regions in
    let after = c.write_runs.new.regions in
    let len = length-shapes after c.deref_mut.result.now c.write_runs.ensures.shapes ∙ ap length c.deref_mut.ensures.value ∙ sym vec.ok.0 in
    low_after _ after (with_items_is vec after len) c.write_runs.ensures.laid_out
