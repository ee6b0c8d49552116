use Rattle.std.proofs.Common.{List, ◌∙◌, sym, subst}
use Rattle.call_log.specs.declared.entry.Entry.{Entry}
use Rattle.run_calls.specs.Answering.{IsMaking}
use Rattle.run_calls.proofs.Making.{none_left_over}
use Rattle.run_calls.proofs.makes.make_each.Goals as goal

pub returns : goal.returns
returns g c =
    let none = none_left_over c.made.entries.len c.made.entries.items c.made.entries.ok.0 (sym c.is_empty.ensures ∙ c.made-test.false) in
    record { making = subst (λ (es : List Entry). IsMaking g.v es c.made.run) none c.made.invariant.0; longer = c.made.invariant.1 }
