use Rattle.std.proofs.Common.{arith}
use Rattle.owner_machine.specs.Contexts.{answered_call}
use Rattle.owner_book.proofs.Contexts.{written_any}
use Rattle.owner_book.proofs.context_moves.end_call.Goals as goal

pub returns-then-c-lt16 : goal.returns-then-c-lt16
returns-then-c-lt16 c = written_any (answered_call) c.args.contexts.now c.args.c _ c.answered.result (omega arith) c.answered.ensures
