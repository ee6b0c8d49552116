use Rattle.std.proofs.Common.{ap, ◌∙◌, sym, arith}
use Rattle.legal_run.specs.After.{is_stopped_but}
use Rattle.handler_leaves.proofs.Contexts.{all_true, all_false}
use Rattle.handler_leaves.proofs.stops.is_last.Goals as goal

pub returns-then-not-is_stopped_but : goal.returns-then-not-is_stopped_but
returns-then-not-is_stopped_but g c =
    sym (all_false (is_stopped_but g.o.state c.args.a.0) 0 g.o.inputs.adapters c.loop-b.b (omega (arith, c.loop-b-test.true, c.adapters-b-end.ensures, c.requires.1.0))
    (ap (is_stopped_but g.o.state c.args.a.0) (omega arith) ∙ sym c.is_stopped_but.ensures ∙ c.if-not-is_stopped_but.true))

pub returns : goal.returns
returns g c =
    sym (all_true (is_stopped_but g.o.state c.args.a.0) 0 g.o.inputs.adapters
    (λ i less. ap (is_stopped_but g.o.state c.args.a.0) (omega arith) ∙ c.loop-b.invariant i (omega (arith, less, c.loop-b-test.false, c.adapters-b-end.ensures, c.requires.1.0))))
