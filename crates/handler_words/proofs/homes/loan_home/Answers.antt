use Rattle.std.proofs.Common.{◌≡◌, None, rules}
use Rattle.std.specs.Prelude.{position}
use Rattle.owner_machine.specs.Loans.{due_of}
use Rattle.handler_words.proofs.Loans.{none_due}
use Rattle.handler_words.proofs.homes.loan_home.Goals as goal

pub returns-in-None-clause-none : goal.returns-in-None-clause-none
returns-in-None-clause-none g c =
    let none : position (due_of c.args.a.0) g.s.owner.loans ≡ None = search rules in
    none_due g.s c.args.a.0 none
