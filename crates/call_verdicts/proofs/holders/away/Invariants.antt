use Rattle.std.proofs.Common.{◌≡◌, ◌+◌, ◌≤◌, drop}
use Rattle.std.specs.Prelude.{count_by}
use Rattle.owner_machine.specs.Loans.{away_of}
use Rattle.call_verdicts.proofs.holders.away.Given as goal

-- those so far, and those that are still to come
abbrev pub invariant-loop-j : goal.invariant-loop-j
invariant-loop-j l = record {
  few : l.count ≤ l.j;
  counted : l.count + count_by (away_of l.a.0) (drop l.j l.book.loans) ≡ count_by (away_of l.a.0) l.book.loans;
}
