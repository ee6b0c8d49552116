use Rattle.std.proofs.Common.{◌+◌, ap, ◌∙◌}
use Rattle.call_log.specs.Logs.{State}
use Rattle.owner_machine.specs.Handlers.{outstanding}
use Rattle.owner_rules.specs.State.{owner_of}
use Rattle.owner_book.proofs.TailSteps.{spare_left}
use Rattle.owner_book.proofs.stopping.end_all.Goals as goal

pub returns-clause-spare : goal.returns-clause-spare
returns-clause-spare c = ap (λ (s : State). s.spare + outstanding (owner_of c.args.ledger.now) c.args.adapter.0) c.endings-test.ensures.silent ∙ spare_left (owner_of c.args.ledger.now) (owner_of c.endings.ledger) c.args.adapter c.args.log.now c.endings.log c.stop_laws.ensures c.endings.invariant.tails c.endings-test.ensures.none
