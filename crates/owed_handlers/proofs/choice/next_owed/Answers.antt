use Rattle.std.proofs.Common.{sym, ◌∙◌}
use Rattle.owed_handlers.proofs.AtPoint.{urgent_at, entry_at, rest_at}
use Rattle.owed_handlers.proofs.choice.next_owed.Goals as goal

pub returns-then-is_some : goal.returns-then-is_some
returns-then-is_some g c =
    urgent_at g.o c.args.adapters.now c.args.book.now c.args.world.now c.first_of-urgent.result c.requires c.first_of-urgent.ensures (sym c.is_some.ensures ∙ c.if-is_some.true)

pub returns-then-owes_entry : goal.returns-then-owes_entry
returns-then-owes_entry g c =
    entry_at g.o c.args.adapters.now c.args.book.now c.args.world.now c.first_of-urgent.result c.requires c.first_of-urgent.ensures (sym c.is_some.ensures ∙ c.if-is_some.false)
    (sym c.owes_entry.ensures ∙ c.if-owes_entry.true)

pub returns : goal.returns
returns g c =
    rest_at g.o c.args.adapters.now c.args.book.now c.args.world.now c.first_of-urgent.result c.first_of.result c.requires c.first_of-urgent.ensures (sym c.is_some.ensures ∙ c.if-is_some.false)
    (sym c.owes_entry.ensures ∙ c.if-owes_entry.false) c.first_of.ensures
