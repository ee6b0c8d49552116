use Rattle.std.proofs.Common.{◌<◌, ◌≤◌, ◌+◌, ◌∙◌, subst, arith, refl}
use Rattle.run_ends.proofs.Row.{all_end, counted, cut_begins, ends_further}
use Rattle.run_ends.proofs.endings.end_for_memory.Goals as goal

pub overflow_cast-n-end : goal.overflow_cast-n-end
overflow_cast-n-end g c =
    let same = c.adapters-n-end.ensures ∙ counted c.lists_keep_their_lengths.ensures g.c 0 c.args.run.now (cut_begins g.c c.args.run.now c.requires.0).ending in
    let few = c.requires.1.adapters in
    omega (arith, same, few)

pub loop-n-init : goal.loop-n-init
loop-n-init g c = cut_begins g.c c.args.run.now c.requires.0

pub end_if_unfinished-requires : goal.end_if_unfinished-requires
end_if_unfinished-requires g c =
    let same = c.adapters-n-end.ensures ∙ counted c.lists_keep_their_lengths.ensures g.c 0 c.args.run.now (cut_begins g.c c.args.run.now c.requires.0).ending in
    (refl, (c.loop-n.invariant.ending, subst (λ m. c.loop-n.n < m) same c.loop-n-test.true))

pub loop-n-preserved : goal.loop-n-preserved
loop-n-preserved g c = ends_further g.c c.loop-n.n (c.loop-n.n + 1) c.args.run.now c.loop-n.run c.end_if_unfinished.new.run c.loop-n.invariant c.end_if_unfinished.ensures

pub returns : goal.returns
returns g c =
    let same = c.adapters-n-end.ensures ∙ counted c.lists_keep_their_lengths.ensures g.c 0 c.args.run.now (cut_begins g.c c.args.run.now c.requires.0).ending in
    all_end g.c c.loop-n.n c.args.run.now c.loop-n.run (subst (λ m. m ≤ c.loop-n.n) same c.loop-n-test.false) c.loop-n.invariant
