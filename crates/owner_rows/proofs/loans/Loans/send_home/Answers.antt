use Rattle.std.proofs.Common.{sym, ◌∙◌}
use Rattle.owner_machine.specs.Loans.{gone_home}
use Rattle.owner_rows.specs.Changes.{change_to, change_none}
use Rattle.owner_rows.proofs.loans.Loans.send_home.Goals as goal

pub returns-in-Some : goal.returns-in-Some
returns-in-Some c = c.put.ensures ∙ change_to gone_home c.args.self.now c.args.j c.in-Some.was _ (sym c.row.ensures ∙ c.in-Some.is) c.after_back.ensures

pub returns-in_default : goal.returns-in_default
returns-in_default c = sym (change_none gone_home c.args.self.now c.args.j (sym c.row.ensures ∙ c.in_default.is))
