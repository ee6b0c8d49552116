use Rattle.std.proofs.Common.{true, false}
use Rattle.irql_lock.proofs.Kept.{acquire_level, release_puts_back, release_left, others}
use Rattle.irql_lock.proofs.machine_laws.level_laws.Goals as goal

pub returns : goal.returns
returns _ = record {
  raised = λ s s' c lock. acquire_level s s' c lock false;
  left = λ s s' c lock. acquire_level s s' c lock true;
  put_back = release_puts_back;
  left_at_release = release_left;
  others = others;
}
