use Rattle.std.proofs.Common.{◌≡◌, ◌&&◌, ℕ, false, nat_lt, length, slice_index_or}
use Rattle.owner_machine.specs.State.{phase_is}
use Rattle.legal_run.specs.State.{is_alive}
use Rattle.owed_handlers.proofs.alarms.living.Given as goal

abbrev pub invariant-loop-n : goal.invariant-loop-n
invariant-loop-n l = (length l.living ≡ 256) × ((a : ℕ) → slice_index_or l.living a false ≡ (nat_lt a l.n && phase_is is_alive l.book a))
