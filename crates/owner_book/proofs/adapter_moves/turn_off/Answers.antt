use Rattle.std.proofs.Common.{arith}
use Rattle.owner_book.proofs.Adapters.{swept_done}
use Rattle.owner_book.proofs.adapter_moves.turn_off.Goals as goal

pub returns-clause-off : goal.returns-clause-off
returns-clause-off c = swept_done c.loop-i.i c.args.adapters.now.items c.loop-i.adapters.items c.loop-i.invariant.turned (omega arith)
