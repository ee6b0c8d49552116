use Rattle.std.proofs.Common.{arith}
use Rattle.owner_book.specs.StoppedContexts.{context_stopped}
use Rattle.owner_book.proofs.Contexts.{swept_any}
use Rattle.owner_book.proofs.context_moves.stop_contexts.Goals as goal

pub loop-c-preserved : goal.loop-c-preserved
loop-c-preserved c = swept_any (context_stopped c.args.a c.args.all) c.loop-c.c c.args.contexts.now c.loop-c.contexts _ c.stopped.result c.loop-c.invariant (omega arith) c.stopped.ensures
