use Rattle.std.proofs.Common.{◌≡◌, sym, ap, ◌∙◌, Option, false, true, arith}
use Rattle.std.specs.Option.{option_map_or}
use Rattle.owner_machine.specs.State.{at, numbers_from}
use Rattle.owner_rows.specs.Kept.{loan_away}
use Rattle.owner_machine.specs.declared.rows.Loan.{Loan}
use Rattle.owner_rows.specs.Which.{which_loans}
use Rattle.owner_rows.proofs.Rows.{first_found, first_none}
use Rattle.owner_rows.proofs.KeptRows.{first_loan}
use Rattle.owner_rows.proofs.loans.Loans.first.Goals as goal

pub returns-then-has : goal.returns-then-has
returns-then-has c =
    let found : at (which_loans c.args.which) c.args.self.now c.at-j.result ≡ true = ap (λ (o : Option Loan). option_map_or (which_loans c.args.which) o false) (sym c.in-Some.ensures) ∙ sym c.has.ensures ∙ c.if-has.true in
    sym (first_found (which_loans c.args.which) c.args.self.now c.self.inside.live c.loop-i.i c.at-j.result (omega arith) c.at-j.ensures found) ∙ sym c.loop-i.invariant ∙ first_loan c.args.which c.args.self.now c.self.inside.live (c.self.invariant.numbers ∙ ap (λ rows. numbers_from 0 loan_away rows) c.self.view_is)

pub returns : goal.returns
returns c = sym (first_none (which_loans c.args.which) c.args.self.now c.self.inside.live c.loop-i.i (omega arith)) ∙ sym c.loop-i.invariant ∙ first_loan c.args.which c.args.self.now c.self.inside.live (c.self.invariant.numbers ∙ ap (λ rows. numbers_from 0 loan_away rows) c.self.view_is)
