use Rattle.std.proofs.Common.{◌≤◌, ◌<◌, ap, length, sym, ◌∙◌, arith}
use Rattle.std.specs.List.{list_all}
use Rattle.legal_run.specs.Owed.{waits_or_is_done}
use Rattle.run_rests.proofs.Counted.{all_more, not_all, all_passed}
use Rattle.run_rests.proofs.Drivers.{drivers_are}
use Rattle.run_rests.proofs.waiting.all_wait.Goals as goal

pub returns-then-not-waits_or_is_done : goal.returns-then-not-waits_or_is_done
returns-then-not-waits_or_is_done g c =
    let lt : c.loop-n.n < length c.args.book.now.drivers = omega (arith, c.drivers-n-end.ensures) in
    sym (ap (list_all (waits_or_is_done g.o.state)) (drivers_are g.o.inputs g.o.state c.args.book.now c.requires.1.1 c.requires.0)
    ∙ c.loop-n.invariant
    ∙ not_all (waits_or_is_done g.o.state) c.loop-n.n (length c.args.book.now.drivers) lt (sym c.waits_or_is_done.ensures ∙ c.if-not-waits_or_is_done.true))

pub loop-n-preserved : goal.loop-n-preserved
loop-n-preserved g c =
    let lt : c.loop-n.n < length c.args.book.now.drivers = omega (arith, c.drivers-n-end.ensures) in
    c.loop-n.invariant
    ∙ all_more (waits_or_is_done g.o.state) c.loop-n.n (length c.args.book.now.drivers) lt (sym c.waits_or_is_done.ensures ∙ c.if-not-waits_or_is_done.false)

pub returns : goal.returns
returns g c =
    let end : length c.args.book.now.drivers ≤ c.loop-n.n = omega (arith, c.drivers-n-end.ensures) in
    sym (ap (list_all (waits_or_is_done g.o.state)) (drivers_are g.o.inputs g.o.state c.args.book.now c.requires.1.1 c.requires.0)
    ∙ c.loop-n.invariant
    ∙ all_passed (waits_or_is_done g.o.state) c.loop-n.n (length c.args.book.now.drivers) end)
