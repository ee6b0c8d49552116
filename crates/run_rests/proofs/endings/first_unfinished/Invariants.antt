use Rattle.std.proofs.Common.{◌≡◌, ◌-◌, length, filter, not}
use Rattle.std.specs.List.{range_with_len}
use Rattle.legal_run.specs.Owed.{first, is_finished}
use Rattle.run_rests.proofs.endings.first_unfinished.Given as goal

abbrev pub ghost-is_finished : goal.ghost-is_finished
ghost-is_finished g a = g.o.state

abbrev pub invariant-loop-n : goal.invariant-loop-n
invariant-loop-n g l =
    first (filter (λ a. not (is_finished g.o.state a)) (range_with_len 0 (length l.adapters.charges.items)))
    ≡ first (filter (λ a. not (is_finished g.o.state a)) (range_with_len l.n (length l.adapters.charges.items - l.n)))
