use Rattle.std.proofs.Common.{sym, ◌∙◌}
use Rattle.calls_packets.proofs.Totals.{count_is_read}
use Rattle.calls_packets.proofs.buffers.described.Goals as goal

pub unreachable-requires : goal.unreachable-requires
unreachable-requires c = count_is_read c.args.world.now c.args.head c.args.total _ c.requires.some c.requires.total (sym c.field_in-found.ensures ∙ c.in-None.is)
