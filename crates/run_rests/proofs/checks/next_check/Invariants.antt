use Rattle.std.proofs.Common.{◌≡◌}
use Rattle.std.specs.List.{range_with_len}
use Rattle.legal_run.specs.State.{clock}
use Rattle.legal_run.specs.Owed.{check_of}
use Rattle.run_rests.proofs.Earliest.{earliest_of}
use Rattle.run_rests.proofs.checks.next_check.Given as goal

abbrev pub ghost-check_of : goal.ghost-check_of
ghost-check_of g a = g.o

abbrev pub invariant-loop-n : goal.invariant-loop-n
invariant-loop-n g l = l.first ≡ earliest_of (clock g.o.state) (check_of g.o.state) (range_with_len 0 l.n)
