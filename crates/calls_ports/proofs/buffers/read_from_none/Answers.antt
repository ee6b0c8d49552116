use Rattle.calls_ports.proofs.Wants.{card_stays}
use Rattle.calls_ports.proofs.buffers.read_from_none.Goals as goal

pub returns-in_default : goal.returns-in_default
returns-in_default c = card_stays c.args.world.now c.args.caller.adapter

pub returns : goal.returns
returns c = card_stays c.args.world.now c.args.caller.adapter
