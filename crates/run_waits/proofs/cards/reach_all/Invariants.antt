use Rattle.std.proofs.Common.{◌≡◌}
use Rattle.legal_run.specs.After.{with_arrival}
use Rattle.run_waits.proofs.Reaching.{changed}
use Rattle.run_waits.proofs.cards.reach_all.Given as goal

abbrev pub invariant-loop-n : goal.invariant-loop-n
invariant-loop-n l = l.parts ≡ changed (with_arrival l.bytes) l.n l.fn.parts
