use Rattle.std.proofs.Common.{◌≡◌, ◌-◌}
use Rattle.std.specs.List.{filter_map, range_with_len}
use Rattle.owner_machine.specs.Handlers.{is_none}
use Rattle.miniport.specs.Waiting.{wake_at}
use Rattle.run_rests.proofs.wakes.none_sleeps.Given as goal

abbrev pub ghost-wake_at : goal.ghost-wake_at
ghost-wake_at g a = g.o

abbrev pub invariant-loop-n : goal.invariant-loop-n
invariant-loop-n g l = is_none (filter_map (wake_at g.o.state) (range_with_len 0 16)) ≡ is_none (filter_map (wake_at g.o.state) (range_with_len l.n (16 - l.n)))
