use Rattle.std.proofs.Common.{◌<◌, ◌≤◌, ap, ◌∙◌, sym, subst, arith, length}
use Rattle.owner_machine.specs.State.{Owner}
use Rattle.run_stops.proofs.Several.{all_stopped, counted}
use Rattle.run_stops.proofs.stops.stop_every.Goals as goal

pub overflow_cast-n-end : goal.overflow_cast-n-end
overflow_cast-n-end g c =
    let same = c.adapters-n-end.ensures ∙ ap (λ (o : Owner). length o.adapters) c.requires.0.kept.owner ∙ counted c.lists_keep_their_lengths.ensures g.c c.args.run.now c.requires.0 in
    let few : c.adapters-n-end.result < 256 = subst (λ n. n < 256) (sym same) c.requires.1.1.1.1.1.1.0 in
    omega (arith, few)

pub stop_if_due-requires : goal.stop_if_due-requires
stop_if_due-requires g c =
    let same = c.adapters-n-end.ensures ∙ ap (λ (o : Owner). length o.adapters) c.requires.0.kept.owner ∙ counted c.lists_keep_their_lengths.ensures g.c c.args.run.now c.requires.0 in
    (c.loop-n.invariant.stopping, (c.loop-n.invariant.fed, (subst (λ m. c.loop-n.n < m) same c.loop-n-test.true, (c.requires.1.1.1.1.0, (c.requires.1.1.1.1.1.0, c.requires.1.1.1.1.1.1.1.0)))))

pub returns : goal.returns
returns g c =
    let same = c.adapters-n-end.ensures ∙ ap (λ (o : Owner). length o.adapters) c.requires.0.kept.owner ∙ counted c.lists_keep_their_lengths.ensures g.c c.args.run.now c.requires.0 in
    all_stopped g.c c.loop-n.n c.args.cause c.args.run.now c.loop-n.run (subst (λ m. m ≤ c.loop-n.n) same c.loop-n-test.false) c.loop-n.invariant
