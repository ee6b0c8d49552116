use Rattle.std.proofs.Common.{Bool, true, false, not, ◌≡◌, rules, refl, sym, ap, ◌∙◌}
use Rattle.std.proofs.lemmas.Bool.{false≢true}
use Rattle.packet_pool.specs.LiveSet.{is_same}
use Rattle.packet_pool.proofs.KeptRow.{idle_found, none_found}
use Rattle.packet_pool.proofs.Sound.{same_kind}
use Rattle.packet_pool.proofs.kept_pools.idle_place.Goals as goal

pub returns : goal.returns
returns c =
    idle_found c.args.pools.now c.args.kind c.args.handle c.in-Some-fit.place _ c.descriptor_size.result c.in-Some.kept.now (sym c.in-Some.ensures.value)
    (same_kind c.in-Some.kept.now.pool.kind c.args.kind (sym c.is_same.ensures ∙ c.if-not-is_same.false)) (c.requires c.args.handle c.in-Some.kept.now (sym c.in-Some.ensures.value))
    c.in-Some-fit.ensures.fit.0 c.in-Some-fit.ensures.fit.1 c.in-Some-fit.ensures.inside c.descriptor_size.ensures refl

pub returns-in_default-fit : goal.returns-in_default-fit
returns-in_default-fit c =
    none_found c.args.pools.now c.args.kind c.args.handle c.in-Some.kept.now (sym c.in-Some.ensures.value)
    (same_kind c.in-Some.kept.now.pool.kind c.args.kind (sym c.is_same.ensures ∙ c.if-not-is_same.false))
    (rw c.in_default-fit.is at c.fit.ensures.fit)
