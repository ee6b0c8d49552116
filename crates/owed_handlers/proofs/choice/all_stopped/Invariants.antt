use Rattle.std.proofs.Common.{◌≡◌, ◌-◌}
use Rattle.std.specs.List.{list_all, range_with_len}
use Rattle.owner_machine.specs.State.{phase_is, is_stopped}
use Rattle.owed_handlers.proofs.choice.all_stopped.Given as goal

abbrev pub invariant-loop-n : goal.invariant-loop-n
invariant-loop-n l = list_all (phase_is is_stopped l.book) (range_with_len 0 l.count) ≡ list_all (phase_is is_stopped l.book) (range_with_len l.n (l.count - l.n))
