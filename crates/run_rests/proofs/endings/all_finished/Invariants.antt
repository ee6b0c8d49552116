use Rattle.std.proofs.Common.{◌≡◌, ◌-◌, length}
use Rattle.std.specs.List.{list_all, range_with_len}
use Rattle.legal_run.specs.Owed.{is_finished}
use Rattle.run_rests.proofs.endings.all_finished.Given as goal

abbrev pub ghost-is_finished : goal.ghost-is_finished
ghost-is_finished g a = g.o.state

abbrev pub invariant-loop-n : goal.invariant-loop-n
invariant-loop-n g l =
    list_all (is_finished g.o.state) (range_with_len 0 (length l.adapters.charges.items))
    ≡ list_all (is_finished g.o.state) (range_with_len l.n (length l.adapters.charges.items - l.n))
