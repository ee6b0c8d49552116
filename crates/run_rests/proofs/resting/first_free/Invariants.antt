use Rattle.std.proofs.Common.{◌≡◌, ◌-◌, filter}
use Rattle.std.specs.List.{range_with_len}
use Rattle.owner_machine.specs.State.{at}
use Rattle.legal_run.specs.State.{is_free_context}
use Rattle.legal_run.specs.Owed.{first}
use Rattle.run_rests.proofs.resting.first_free.Given as goal

abbrev pub invariant-loop-n : goal.invariant-loop-n
invariant-loop-n l = first (filter (at is_free_context l.book.contexts) (range_with_len 0 16)) ≡ first (filter (at is_free_context l.book.contexts) (range_with_len l.n (16 - l.n)))
