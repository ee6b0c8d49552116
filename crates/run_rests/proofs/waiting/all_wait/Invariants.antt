use Rattle.std.proofs.Common.{◌≡◌, ◌-◌, length}
use Rattle.std.specs.List.{list_all, range_with_len}
use Rattle.legal_run.specs.Owed.{waits_or_is_done}
use Rattle.run_rests.proofs.waiting.all_wait.Given as goal

abbrev pub ghost-waits_or_is_done : goal.ghost-waits_or_is_done
ghost-waits_or_is_done g a = g.o.state

abbrev pub invariant-loop-n : goal.invariant-loop-n
invariant-loop-n g l =
    list_all (waits_or_is_done g.o.state) (range_with_len 0 (length l.book.drivers))
    ≡ list_all (waits_or_is_done g.o.state) (range_with_len l.n (length l.book.drivers - l.n))
