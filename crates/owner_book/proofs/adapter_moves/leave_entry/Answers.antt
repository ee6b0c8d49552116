use Rattle.std.proofs.Common.{◌∙◌, arith}
use Rattle.owner_book.proofs.Adapters.{off_nonzero}
use Rattle.owner_book.proofs.adapter_moves.leave_entry.Goals as goal

pub returns-then-eax-ne0-clause-moved : goal.returns-then-eax-ne0-clause-moved
returns-then-eax-ne0-clause-moved c = c.turn_off.ensures.off ∙ off_nonzero c.args.eax c.args.adapters.now.items (omega arith)
