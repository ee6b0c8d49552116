use Rattle.std.proofs.Common.{◌≡◌, ◌-◌, length, filter}
use Rattle.std.specs.List.{range_with_len}
use Rattle.legal_run.specs.Owed.{first, is_kept_busy}
use Rattle.run_rests.proofs.endings.silent_one.Given as goal

abbrev pub ghost-is_kept_busy : goal.ghost-is_kept_busy
ghost-is_kept_busy g a = g.o.state

abbrev pub invariant-loop-n : goal.invariant-loop-n
invariant-loop-n g l =
    first (filter (is_kept_busy g.o.state) (range_with_len 0 (length l.adapters.charges.items)))
    ≡ first (filter (is_kept_busy g.o.state) (range_with_len l.n (length l.adapters.charges.items - l.n)))
