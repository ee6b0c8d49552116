use Rattle.std.proofs.Common.{◌≡◌, ◌+◌, ◌≤◌, [], length}
use Rattle.std.specs.Prelude.{count_by}
use Rattle.owner_machine.specs.Loans.{away_of}
use Rattle.legal_run.specs.Calls.{indicated}
use Rattle.call_verdicts.proofs.Walks.{in_front, rest_of}
use Rattle.call_verdicts.proofs.arrays.indicated.Given as goal

abbrev pub ghost-judged : goal.ghost-judged
ghost-judged g a = g.s

-- what stands so far, in front of what the packets make that are still to come
abbrev pub invariant-loop-i : goal.invariant-loop-i
invariant-loop-i g l =
    in_front l.array.entries.items l.array.lent.items l.array.writes (rest_of g.s l.a.0 (length g.s.owner.loans + l.i) l.away l.array.lent.items l.packets l.i)
    ≡ indicated g.s l.a.0 (length g.s.owner.loans) (count_by (away_of l.a.0) g.s.owner.loans) [] l.packets
