use Rattle.std.proofs.Common.{◌≡◌, true, false, length, ap, sym, ◌∙◌, arith}
use Rattle.log_fields.specs.declared.field_values.Handler.TheVariants as handler
use Rattle.legal_run.specs.State.{clock}
use Rattle.legal_run.specs.Owed.{check_of}
use Rattle.run_rests.proofs.AtPoint.{handler_at, no_checks, checks_at}
use Rattle.run_rests.proofs.Earliest.{least_none, one_more, all_of_them}
use Rattle.run_rests.proofs.checks.next_check.Goals as goal

pub returns-then-not-has_handler : goal.returns-then-not-has_handler
returns-then-not-has_handler g c =
    no_checks g.o.inputs g.o.state
    (handler_at g.o.state c.args.world.now handler.CheckForHang c.has_handler.result false c.requires.world c.has_handler.ensures c.if-not-has_handler.true)

pub loop-n-init : goal.loop-n-init
loop-n-init g c = sym least_none

pub loop-n-preserved : goal.loop-n-preserved
loop-n-preserved g c =
    one_more (clock g.o.state) c.now-now.result (check_of g.o.state) c.loop-n.n c.loop-n.first c.check_of.result c.to_come.result c.earlier-first.result
    (c.now-now.ensures ∙ ap (λ w. w.clock.clock) c.requires.world) c.loop-n.invariant c.check_of.ensures c.to_come.ensures c.earlier-first.ensures

pub returns : goal.returns
returns g c =
    let end : c.loop-n.n ≡ length c.args.adapters.now.charges.items = omega (arith, c.args.adapters.now.charges.ok.0) in
    checks_at g.o.inputs g.o.state c.args.adapters.now c.loop-n.first c.requires.keeps
    (handler_at g.o.state c.args.world.now handler.CheckForHang c.has_handler.result true c.requires.world c.has_handler.ensures c.if-not-has_handler.false)
    (all_of_them (clock g.o.state) (check_of g.o.state) c.loop-n.n (length c.args.adapters.now.charges.items) c.loop-n.first end c.loop-n.invariant)
