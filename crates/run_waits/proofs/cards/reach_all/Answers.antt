use Rattle.std.proofs.Common.{◌≡◌, suc, ◌+◌, refl, ap, ◌∙◌, subst, arith, slice_index_or, slice_set}
use Rattle.legal_run.specs.After.{with_arrival}
use Rattle.run_waits.proofs.Reaching.{all_changed, changed, one_more}
use Rattle.run_waits.proofs.cards.reach_all.Goals as goal

pub loop-n-init : goal.loop-n-init
loop-n-init c = refl

pub loop-n-preserved : goal.loop-n-preserved
loop-n-preserved c =
    let n = c.loop-n.n in
    let f = with_arrival c.args.bytes.now in
    let none = c.index-parts-n.result in
    let next : suc n ≡ n + 1 = omega arith in
    subst (λ m. slice_set c.loop-n.parts n c.reach_one.new.part ≡ changed f m c.args.parts.now) next
    (ap (slice_set c.loop-n.parts n) c.reach_one.ensures
    ∙ ap (λ ys. slice_set ys n (f (slice_index_or ys n none))) c.loop-n.invariant
    ∙ one_more f none n c.args.parts.now c.loop-n-test.true)

pub returns : goal.returns
returns c = c.loop-n.invariant ∙ all_changed (with_arrival c.args.bytes.now) c.loop-n.n c.args.parts.now c.loop-n-test.false
