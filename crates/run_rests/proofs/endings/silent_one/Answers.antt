use Rattle.std.proofs.Common.{◌<◌, ◌≤◌, ap, filter, length, sym, ◌∙◌, arith}
use Rattle.legal_run.specs.Owed.{first, is_kept_busy}
use Rattle.run_rests.proofs.AtPoint.{adapters_are}
use Rattle.run_rests.proofs.Lowest.{first_more, first_found, none_found}
use Rattle.run_rests.proofs.endings.silent_one.Goals as goal

pub returns-then-is_kept_busy : goal.returns-then-is_kept_busy
returns-then-is_kept_busy g c =
    let lt : c.loop-n.n < length c.args.adapters.now.charges.items = omega (arith, c.args.adapters.now.charges.ok.0) in
    sym (ap (λ ns. first (filter (is_kept_busy g.o.state) ns)) (adapters_are g.o.inputs g.o.state c.args.adapters.now c.requires.0)
    ∙ c.loop-n.invariant
    ∙ first_found (is_kept_busy g.o.state) c.loop-n.n (length c.args.adapters.now.charges.items) lt (sym c.is_kept_busy.ensures ∙ c.if-is_kept_busy.true))

pub loop-n-preserved : goal.loop-n-preserved
loop-n-preserved g c =
    let lt : c.loop-n.n < length c.args.adapters.now.charges.items = omega (arith, c.args.adapters.now.charges.ok.0) in
    c.loop-n.invariant
    ∙ first_more (is_kept_busy g.o.state) c.loop-n.n (length c.args.adapters.now.charges.items) lt (sym c.is_kept_busy.ensures ∙ c.if-is_kept_busy.false)

pub returns : goal.returns
returns g c =
    let end : length c.args.adapters.now.charges.items ≤ c.loop-n.n = omega (arith, c.args.adapters.now.charges.ok.0) in
    sym (ap (λ ns. first (filter (is_kept_busy g.o.state) ns)) (adapters_are g.o.inputs g.o.state c.args.adapters.now c.requires.0)
    ∙ c.loop-n.invariant
    ∙ none_found (is_kept_busy g.o.state) c.loop-n.n (length c.args.adapters.now.charges.items) end)
