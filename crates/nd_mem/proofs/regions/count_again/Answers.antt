use Rattle.std.proofs.Common.{◌≤◌, arith}
use Rattle.std.proofs.lemmas.Bool.Decides.{nat_tests}
use Rattle.nd_mem.proofs.Order.{begun_between}
use Rattle.nd_mem.proofs.regions.count_again.Goals as goal

pub returns-then-begins_behind-clause-begun : goal.returns-then-begins_behind-clause-begun
returns-then-begins_behind-clause-begun c =
    let before : c.index-regions-guess.result.first.0 ≤ c.args.at.0 = grind (arith, nat_tests) in
    begun_between c.args.regions.now c.args.at.0 c.get-guess.result c.index-regions-guess.result c.requires (omega arith) (omega arith) c.index-regions-guess.is before (c.begins_behind.ensures c.if-begins_behind.true)
