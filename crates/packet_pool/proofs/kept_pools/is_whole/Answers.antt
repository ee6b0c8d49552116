use Rattle.std.proofs.Common.{Bool, ◌<◌, subst, sym, arith}
use Rattle.packet_pool.specs.KeptPools.{TellsWhole}
use Rattle.packet_pool.proofs.KeptRow.{whole_found}
use Rattle.packet_pool.proofs.kept_pools.is_whole.Goals as goal

pub fit-requires : goal.fit-requires
fit-requires c = (c.requires c.args.handle c.in-Some.kept.now (sym c.in-Some.ensures.value)).some

pub returns-in-Some : goal.returns-in-Some
returns-in-Some c =
    subst (TellsWhole c.args.pools.now c.args.handle) (sym c.is_some.ensures)
    (whole_found c.args.pools.now c.args.handle c.in-Some.kept.now c.fit.result (sym c.in-Some.ensures.value) (c.requires c.args.handle c.in-Some.kept.now (sym c.in-Some.ensures.value)) c.fit.ensures.fit c.fit.ensures.inside)
