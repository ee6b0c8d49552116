use Rattle.irql_lock.proofs.Kept.{end_lets_go, end_others, end_locks, end_closed}
use Rattle.irql_lock.proofs.machine_laws.end_laws.Goals as goal

pub returns : goal.returns
returns _ = record { lets_go = end_lets_go; others = end_others; locks = end_locks; closed = end_closed }
