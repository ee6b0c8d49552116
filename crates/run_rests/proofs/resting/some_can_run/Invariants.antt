use Rattle.std.proofs.Common.{◌≡◌, ◌-◌}
use Rattle.std.specs.List.{list_any, range_with_len}
use Rattle.legal_run.specs.Owed.{can_run}
use Rattle.run_rests.proofs.resting.some_can_run.Given as goal

abbrev pub ghost-can_run : goal.ghost-can_run
ghost-can_run g a = g.o

abbrev pub invariant-loop-n : goal.invariant-loop-n
invariant-loop-n g l = list_any (can_run g.o.state) (range_with_len 0 16) ≡ list_any (can_run g.o.state) (range_with_len l.n (16 - l.n))
