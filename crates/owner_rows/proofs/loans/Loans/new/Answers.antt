use Rattle.owner_rows.proofs.KeptRows.{no_loans}
use Rattle.owner_rows.proofs.loans.Loans.new.Goals as goal

pub invariant_of-result : goal.invariant_of-result
invariant_of-result c = rw (c.before.new.ensures.items, c.new-2.ensures) no_loans
