use Rattle.std.proofs.Common.{is_some, refl, ap, ◌∙◌}
use Rattle.calls_setup.proofs.BlockLemmas.{made}
use Rattle.calls_setup.proofs.blocks.block_for.Goals as goal

pub give_up-requires : goal.give_up-requires
give_up-requires c = (made c.room_laws.ensures c.args.pools.now c.args.length c.in-Ok.at.0 c.alloc_block.new.self c.in-Ok.ensures.0 c.in-Ok.ensures.1).free

pub returns-else-writable : goal.returns-else-writable
returns-else-writable c = (
  record {
    room = ap is_some c.in-Ok.ensures.0;
    kept = c.give_up.ensures ∙ (made c.room_laws.ensures c.args.pools.now c.args.length c.in-Ok.at.0 c.alloc_block.new.self c.in-Ok.ensures.0 c.in-Ok.ensures.1).back;
  },
  c.if-writable.false,
  refl,
)

pub returns-then-writable : goal.returns-then-writable
returns-then-writable c = (made c.room_laws.ensures c.args.pools.now c.args.length c.in-Ok.at.0 c.alloc_block.new.self c.in-Ok.ensures.0 c.in-Ok.ensures.1, c.if-writable.true)
