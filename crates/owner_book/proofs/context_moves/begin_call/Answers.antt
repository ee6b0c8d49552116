use Rattle.std.proofs.Common.{arith}
use Rattle.owner_machine.specs.Contexts.{calling}
use Rattle.owner_book.proofs.Contexts.{written_any}
use Rattle.owner_book.proofs.context_moves.begin_call.Goals as goal

pub returns-then-c-lt16 : goal.returns-then-c-lt16
returns-then-c-lt16 c = written_any (calling c.args.import c.args.words.now) c.args.contexts.now c.args.c _ c.calling.result (omega arith) c.calling.ensures
