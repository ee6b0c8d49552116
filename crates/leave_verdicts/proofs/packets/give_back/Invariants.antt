use Rattle.std.proofs.Common.{◌≡◌, ◌++◌, drop}
use Rattle.legal_run.specs.Calls.{given_back}
use Rattle.leave_verdicts.proofs.packets.give_back.Given as goal

-- what stands so far, and what is still to come
abbrev pub invariant-loop-k : goal.invariant-loop-k
invariant-loop-k g l = l.entries.items ++ given_back g.s (drop l.k-index l.packets) ≡ l.initial.entries.items ++ given_back g.s l.packets
