use Rattle.std.proofs.Common.{◌<◌, ◌≤◌, ap, length, sym, ◌∙◌, arith}
use Rattle.std.specs.List.{list_all}
use Rattle.legal_run.specs.Owed.{is_finished}
use Rattle.run_rests.proofs.AtPoint.{adapters_are}
use Rattle.run_rests.proofs.Counted.{all_more, not_all, all_passed}
use Rattle.run_rests.proofs.endings.all_finished.Goals as goal

pub returns-then-not-is_finished : goal.returns-then-not-is_finished
returns-then-not-is_finished g c =
    let lt : c.loop-n.n < length c.args.adapters.now.charges.items = omega (arith, c.args.adapters.now.charges.ok.0) in
    sym (ap (list_all (is_finished g.o.state)) (adapters_are g.o.inputs g.o.state c.args.adapters.now c.requires.0)
    ∙ c.loop-n.invariant
    ∙ not_all (is_finished g.o.state) c.loop-n.n (length c.args.adapters.now.charges.items) lt (sym c.is_finished.ensures ∙ c.if-not-is_finished.true))

pub loop-n-preserved : goal.loop-n-preserved
loop-n-preserved g c =
    let lt : c.loop-n.n < length c.args.adapters.now.charges.items = omega (arith, c.args.adapters.now.charges.ok.0) in
    c.loop-n.invariant
    ∙ all_more (is_finished g.o.state) c.loop-n.n (length c.args.adapters.now.charges.items) lt (sym c.is_finished.ensures ∙ c.if-not-is_finished.false)

pub returns : goal.returns
returns g c =
    let end : length c.args.adapters.now.charges.items ≤ c.loop-n.n = omega (arith, c.args.adapters.now.charges.ok.0) in
    sym (ap (list_all (is_finished g.o.state)) (adapters_are g.o.inputs g.o.state c.args.adapters.now c.requires.0)
    ∙ c.loop-n.invariant
    ∙ all_passed (is_finished g.o.state) c.loop-n.n (length c.args.adapters.now.charges.items) end)
