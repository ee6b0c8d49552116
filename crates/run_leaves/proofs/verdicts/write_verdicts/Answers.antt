use Rattle.std.proofs.Common.{List, ◌∙◌, sym, subst}
use Rattle.call_log.specs.declared.entry.Entry.{Entry}
use Rattle.run_leaves.specs.Leaving.{IsWriting}
use Rattle.run_leaves.proofs.Writing.{none_left_over, settled}
use Rattle.run_leaves.proofs.verdicts.write_verdicts.Goals as goal

pub returns : goal.returns
returns g c =
    let none = none_left_over c.verdicts.verdicts.len c.verdicts.verdicts.items c.verdicts.verdicts.ok.0 (sym c.is_empty.ensures ∙ c.verdicts-test.false) in
    settled g.c c.args.run.now c.verdicts.run (record { writing = subst (λ (es : List Entry). IsWriting g.c es c.verdicts.run) none c.verdicts.invariant.0; longer = c.verdicts.invariant.1 })
