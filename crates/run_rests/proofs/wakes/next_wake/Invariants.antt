use Rattle.std.proofs.Common.{◌≡◌}
use Rattle.std.specs.List.{range_with_len}
use Rattle.legal_run.specs.State.{clock}
use Rattle.miniport.specs.Waiting.{wake_at}
use Rattle.run_rests.proofs.Earliest.{earliest_of}
use Rattle.run_rests.proofs.wakes.next_wake.Given as goal

abbrev pub ghost-wake_at : goal.ghost-wake_at
ghost-wake_at g a = g.o

abbrev pub invariant-loop-n : goal.invariant-loop-n
invariant-loop-n g l = l.first ≡ earliest_of (clock g.o.state) (wake_at g.o.state) (range_with_len 0 l.n)
