use Rattle.std.proofs.Common.{◌∙◌, ap}
use Rattle.dp8390.specs.declared.registers.Registers.{Registers}
use Rattle.dp8390.specs.Card.{blank_memory, new_card}
use Rattle.dp8390.proofs.card.Card.new.Goals as goal

pub returns : goal.returns
unfolding blank_memory
returns c = c.in_ok-board.ensures.ok ∙ ap (λ (r : Registers). record (new_card c.args.station) { registers = r }) c.new.ensures
