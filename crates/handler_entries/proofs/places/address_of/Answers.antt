use Rattle.std.proofs.Common.{ap, sym, ◌∙◌}
use Rattle.legal_run.specs.Owed.{sync_caller}
use Rattle.legal_run.specs.Enters.{address_of}
use Rattle.handler_entries.proofs.Dues.{synchronized_is}
use Rattle.handler_entries.proofs.places.address_of.Goals as goal

pub returns-in-Sync : goal.returns-in-Sync
returns-in-Sync g c =
    c.synchronized.ensures
    ∙ synchronized_is g.o.state c.args.adapters.now.contexts c.args.due.caller (sync_caller g.o.state c.args.a.0) c.requires.0.rows c.requires.1.1.called
    ∙ sym (ap (address_of g.o.inputs g.o.state c.args.a.0) c.in-Sync.is)
