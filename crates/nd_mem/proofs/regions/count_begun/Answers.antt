use Rattle.std.proofs.Common.{leb, leb-true, leb-false, rules}
use Rattle.std.proofs.lemmas.List.Sorted.{IsPartitionPoint-from_clause, IsPartitionedBy-leb}
use Rattle.nd_mem.specs.declared.regions.Region.{Region}
use Rattle.nd_mem.proofs.Order.{firsts_rise}
use Rattle.nd_mem.proofs.regions.count_begun.Goals as goal

pub returns-clause-begun : goal.returns-clause-begun
returns-clause-begun c =
    let parted = IsPartitionedBy-leb (λ (region : Region). region.first.0) _ c.args.at.0 (firsts_rise c.args.regions.now c.requires) in
    let point = IsPartitionPoint-from_clause (λ (region : Region). leb region.first.0 c.args.at.0) _ _ c.partition_point.ensures.partitioned parted (λ a r q k. search rules) in
    (λ k d low less. leb-true _ _ (point.0 k d low less), λ k d low less. leb-false _ _ (point.1 k d low less))
