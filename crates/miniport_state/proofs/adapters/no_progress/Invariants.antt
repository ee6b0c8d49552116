use Rattle.std.proofs.Common.{◌≡◌, replicate}
use Rattle.legal_run.specs.State.{no_progress}
use Rattle.miniport_state.proofs.adapters.no_progress.Given as goal

abbrev pub invariant-loop : goal.invariant-loop
invariant-loop l = l.progress.items ≡ replicate l.counter no_progress
