use Rattle.std.proofs.Common.{◌≡◌, ◌-◌, length}
use Rattle.std.specs.List.{range_with_len}
use Rattle.legal_run.specs.Owed.{first}
use Rattle.owed_handlers.specs.Kept.{inputs_of, state_of}
use Rattle.owed_handlers.specs.Order.{owed_by}
use Rattle.owed_handlers.proofs.choice.first_of.Given as goal

abbrev pub invariant-loop-n : goal.invariant-loop-n
invariant-loop-n l =
    first (owed_by (inputs_of l.adapters) (state_of l.adapters l.book l.world) l.handlers (range_with_len 0 (length l.adapters.charges.items)))
    ≡ first (owed_by (inputs_of l.adapters) (state_of l.adapters l.book l.world) l.handlers (range_with_len l.n (length l.adapters.charges.items - l.n)))
