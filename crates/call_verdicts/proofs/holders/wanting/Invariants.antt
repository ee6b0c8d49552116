use Rattle.std.proofs.Common.{◌≡◌, ◌++◌, drop, map}
use Rattle.owner_machine.specs.State.{numbers_from}
use Rattle.owner_machine.specs.Loans.{wanting, wants}
use Rattle.call_verdicts.proofs.Rows.{driver_of}
use Rattle.call_verdicts.proofs.holders.wanting.Given as goal

-- those so far, and those that are still to come
abbrev pub invariant-loop-b : goal.invariant-loop-b
invariant-loop-b l = l.holders ++ map driver_of (numbers_from l.b (wants l.a.0 l.bytes) (drop l.b l.book.drivers)) ≡ map driver_of (wanting l.book l.a.0 l.bytes)
