use Rattle.std.proofs.Common.{sym, ◌∙◌}
use Rattle.owner_machine.specs.Loans.{returned}
use Rattle.owner_rows.specs.Changes.{change_to}
use Rattle.owner_rows.proofs.loans.Loans.give_back.Goals as goal

pub returns-in-Some : goal.returns-in-Some
returns-in-Some c = c.put.ensures ∙ change_to (returned c.args.b) c.args.self.now c.args.j c.in-Some.was _ (sym c.row.ensures ∙ c.in-Some.is) c.after_return.ensures
