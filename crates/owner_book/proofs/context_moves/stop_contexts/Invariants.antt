use Rattle.std.proofs.Common.{◌≡◌}
use Rattle.owner_book.specs.StoppedContexts.{context_stopped}
use Rattle.owner_book.proofs.Contexts.{swept}
use Rattle.owner_book.proofs.context_moves.stop_contexts.Given as goal

abbrev pub invariant-loop-c : goal.invariant-loop-c
invariant-loop-c l = l.contexts ≡ swept (context_stopped l.a l.all) l.c l.initial.contexts
