use Rattle.std.proofs.Common.{◌≡◌, ◌<◌, ℕ, false}
use Rattle.legal_run.specs.State.{is_free}
use Rattle.handler_words.proofs.contexts.free_context.Given as goal

abbrev pub invariant-loop-n : goal.invariant-loop-n
invariant-loop-n g l = (y : ℕ) → y < l.n → is_free g.s y ≡ false
