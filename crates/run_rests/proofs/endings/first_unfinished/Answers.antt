use Rattle.std.proofs.Common.{◌<◌, ◌≤◌, ℕ, Bool, ap, not, filter, length, sym, ◌∙◌, arith}
use Rattle.legal_run.specs.State.{State}
use Rattle.legal_run.specs.Owed.{first, is_finished}
use Rattle.run_rests.proofs.AtPoint.{adapters_are}
use Rattle.run_rests.proofs.Lowest.{first_more, first_found, none_found}
use Rattle.run_rests.proofs.endings.first_unfinished.Goals as goal

abbrev is_left : State → ℕ → Bool
is_left s a = not (is_finished s a)

pub returns-then-not-is_finished : goal.returns-then-not-is_finished
returns-then-not-is_finished g c =
    let lt : c.loop-n.n < length c.args.adapters.now.charges.items = omega (arith, c.args.adapters.now.charges.ok.0) in
    sym (ap (λ ns. first (filter (is_left g.o.state) ns)) (adapters_are g.o.inputs g.o.state c.args.adapters.now c.requires.0)
    ∙ c.loop-n.invariant
    ∙ first_found (is_left g.o.state) c.loop-n.n (length c.args.adapters.now.charges.items) lt (ap not (sym c.is_finished.ensures ∙ c.if-not-is_finished.true)))

pub loop-n-preserved : goal.loop-n-preserved
loop-n-preserved g c =
    let lt : c.loop-n.n < length c.args.adapters.now.charges.items = omega (arith, c.args.adapters.now.charges.ok.0) in
    c.loop-n.invariant
    ∙ first_more (is_left g.o.state) c.loop-n.n (length c.args.adapters.now.charges.items) lt (ap not (sym c.is_finished.ensures ∙ c.if-not-is_finished.false))

pub returns : goal.returns
returns g c =
    let end : length c.args.adapters.now.charges.items ≤ c.loop-n.n = omega (arith, c.args.adapters.now.charges.ok.0) in
    sym (ap (λ ns. first (filter (is_left g.o.state) ns)) (adapters_are g.o.inputs g.o.state c.args.adapters.now c.requires.0)
    ∙ c.loop-n.invariant
    ∙ none_found (is_left g.o.state) c.loop-n.n (length c.args.adapters.now.charges.items) end)
