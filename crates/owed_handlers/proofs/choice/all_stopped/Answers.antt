use Rattle.std.proofs.Common.{◌≡◌, true, rules, ◌∙◌, sym}
use Rattle.owner_machine.specs.State.{phase_is, is_stopped}
use Rattle.owed_handlers.proofs.Found.{all_more}
use Rattle.owed_handlers.proofs.choice.all_stopped.Goals as goal

pub loop-n-preserved : goal.loop-n-preserved
loop-n-preserved c =
    let stopped : c.is_stopped.result ≡ true = search rules in
    c.loop-n.invariant ∙ all_more (phase_is is_stopped c.args.book.now) c.loop-n.n c.args.count c.loop-n-test.true (sym c.is_stopped.ensures ∙ stopped)
