use Rattle.packet_pool.proofs.KeptRow.{room_found}
use Rattle.packet_pool.proofs.guest_row.room_for.Goals as goal

pub returns : goal.returns
returns c = room_found c.args.row.now c.args.length c.unit_count.result c.fit.result c.requires.some c.requires.size c.unit_count.ensures c.fit.ensures.fit (c.fit.ensures.first 19 c.requires.size) c.fit.ensures.inside
