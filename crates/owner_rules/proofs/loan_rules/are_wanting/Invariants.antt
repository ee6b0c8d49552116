use Rattle.std.proofs.Common.{◌≡◌, ◌≤◌, length}
use Rattle.owner_machine.specs.Loans.{wants}
use Rattle.owner_rules.proofs.Wanting.{are_same}
use Rattle.owner_rules.proofs.loan_rules.are_wanting.Given as goal

abbrev pub invariant-loop-b : goal.invariant-loop-b
invariant-loop-b l = record {
  same : are_same (wants l.a l.bytes) l.holders l.drivers 0 0 ≡ are_same (wants l.a l.bytes) l.holders l.drivers l.named l.b;
  within : l.named ≤ length l.holders;
}
