use Rattle.std.proofs.Common.{rules}
use Rattle.std.proofs.lemmas.Map.Made.{map_same_pairs}
use Rattle.irql_lock.specs.LockState.{let_go}
use Rattle.irql_lock.proofs.lock_table.let_go_locks.Goals as goal

pub returns-clause-value : goal.returns-clause-value
returns-clause-value c = map_same_pairs _ (let_go c.args.c) _ (λ k v b w f' t. search rules) _ _ c.retain.ensures.filtered
