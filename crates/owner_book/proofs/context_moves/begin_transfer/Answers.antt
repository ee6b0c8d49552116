use Rattle.std.proofs.Common.{sym, ◌∙◌}
use Rattle.owner_book.proofs.Contexts.{begun_at, begun_nowhere}
use Rattle.owner_book.proofs.context_moves.begin_transfer.Goals as goal

pub returns-in-Some : goal.returns-in-Some
returns-in-Some c = begun_at c.args.a c.args.n c.args.contexts.now c.in-Some.c _ c.with_transfer.result (sym c.in-Some.ensures.value) c.with_transfer.ensures

pub returns-in_default : goal.returns-in_default
returns-in_default c = begun_nowhere c.args.a c.args.n c.args.contexts.now (sym c.wanting.ensures.value ∙ c.in_default.is)
