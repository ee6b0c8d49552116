use Rattle.std.proofs.Common.{rules, refl, sym, ap, ◌-◌, ◌/◌, ℕ}
use Rattle.packet_pool.specs.LiveSet.{descriptor_size}
use Rattle.packet_pool.proofs.KeptRow.{given_place}
use Rattle.packet_pool.proofs.kept_pools.give_place.Goals as goal

pub returns : goal.returns
returns c =
    given_place c.args.pools.now _ c.args.handle c.args.at _ c.in-Some.kept.now (record { pool = c.in-Some.kept.now.pool; idle = c.give_back.new.self }) c.requires (search rules)
    (ap (λ (n : ℕ). (c.args.at - c.in-Some.kept.now.pool.first.0) / n) c.descriptor_size.ensures) (search rules) refl c.give_back.ensures
