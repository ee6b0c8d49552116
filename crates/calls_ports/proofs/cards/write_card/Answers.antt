use Rattle.std.proofs.Common.{arith}
use Rattle.std.proofs.lemmas.Grind.{common_steps}
use Rattle.calls_ports.proofs.cards.write_card.Goals as goal

pub returns-clause-changed : goal.returns-clause-changed
returns-clause-changed c = (c.write_each.new.card, grind (arith, common_steps))
