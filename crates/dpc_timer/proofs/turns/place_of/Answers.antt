use Rattle.std.proofs.Common.{rules}
use Rattle.std.proofs.lemmas.List.Sorted.{IsPartitionPoint-from_clause}
use Rattle.dpc_timer.specs.Turns.{is_before}
use Rattle.dpc_timer.proofs.InOrder.{parted}
use Rattle.dpc_timer.proofs.turns.place_of.Goals as goal

pub returns-clause-place : goal.returns-clause-place
returns-clause-place c = IsPartitionPoint-from_clause (λ x. is_before x c.args.turn) _ _ c.partition_point.ensures.partitioned (parted c.args.turns.now.items c.args.turn c.requires) (λ a r q k. search rules)
