use Rattle.handler_entries.proofs.Dues.{timed_is, called_is}
use Rattle.handler_entries.proofs.places.due_of.Goals as goal

pub returns-clause-due : goal.returns-clause-due
returns-clause-due g c = record {
  timed = timed_is g.o c.args.a.0 c.args.adapters.now c.args.book.now c.args.world.now c.due_timer.result c.requires c.due_timer.ensures.timer;
  called = called_is g.o c.args.a.0 c.args.adapters.now c.args.book.now c.args.world.now c.sync_caller.result c.requires c.sync_caller.ensures;
}
