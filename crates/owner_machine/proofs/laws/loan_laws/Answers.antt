use Rattle.std.proofs.Common.{refl, not, ap, arith}
use Rattle.std.specs.Prelude.{nat_lt}
use Rattle.owner_machine.specs.Contexts.{serialized}
use Rattle.owner_machine.specs.Loans.{has_holder, marks}
use Rattle.owner_machine.specs.Legal.{start}
use Rattle.owner_machine.specs.Laws.{number}
use Rattle.owner_machine.proofs.LoanLaw.{loans_come, loans_kept, away_drawn, unheld_kept, due_unheld, deserialized_out}
use Rattle.owner_machine.proofs.NumberLaw.{one_at_most}
use Rattle.owner_machine.proofs.laws.loan_laws.Goals as goal

pub returns : goal.returns
returns _ = record {
  at_most_once = λ adapters drivers log o j legal. let all = loans_come (start adapters drivers) o log j legal in let one = one_at_most (not (nat_lt j 0)) in omega (arith, all, one);
  exactly_once = λ o n log j legal is. let all = loans_kept o n log j legal (away_drawn o.loans j is) in let one = ap number is in omega (arith, all, one);
  unheld = λ adapters drivers log o j legal is. due_unheld o.loans j (unheld_kept (start adapters drivers) o log j legal refl) is;
  lent_out = λ o adapter holders serial. deserialized_out (serialized o adapter.0) (has_holder (marks holders)) serial;
}
