use Rattle.std.proofs.Common.{◌≡◌, ◌<◌, ℕ, false, ◌==◌, slice_index_or}
use Rattle.owner_machine.specs.Loans.{due_of}
use Rattle.run_enters.proofs.Named.{passes}
use Rattle.run_enters.proofs.loans.loan_named.Given as goal

abbrev pub invariant-loop-j : goal.invariant-loop-j
invariant-loop-j g l = (k : ℕ) → k < l.j → passes (due_of l.fn.a.0) g.s.owner.loans (λ i. slice_index_or g.s.lent i 0 == l.fn.descriptor) 0 k ≡ false
