use Rattle.calls_ports.proofs.Wants.{card_stays}
use Rattle.calls_ports.proofs.buffers.read_from_card.Goals as goal

pub returns-in_default-clause-answer : goal.returns-in_default-clause-answer
returns-in_default-clause-answer c = card_stays c.args.world.now c.args.caller.adapter
