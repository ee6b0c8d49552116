use Rattle.std.proofs.Common.{◌∷◌, ◌++◌, [], List, ℕ, length, take, sym, ap, ◌∙◌, arith}
use Rattle.std.proofs.lemmas.List.{take_more, take_all, length-take}
use Rattle.inf_text.specs.Characters.{units}
use Rattle.inf_text.proofs.Loops.{units_half}
use Rattle.inf_text.proofs.characters.units.Goals as goal

pub loop-i-preserved : goal.loop-i-preserved
loop-i-preserved c =
    let us = units c.args.bytes.now in
    c.in_ok-push.ensures.items ∙ ap (λ (xs : List ℕ). xs ++ c.unit_at.result ∷ []) c.loop-i.invariant ∙ ap (λ (u : ℕ). take c.loop-i.i us ++ u ∷ []) c.unit_at.ensures
    ∙ sym (take_more us c.loop-i.i 0 (omega (arith, units_half c.args.bytes.now)))

pub returns-clause-value : goal.returns-clause-value
returns-clause-value c = c.loop-i.invariant ∙ take_all _ (units c.args.bytes.now) (omega (arith, units_half c.args.bytes.now))

pub returns-clause-short : goal.returns-clause-short
returns-clause-short c = omega (arith, ap length c.loop-i.invariant, length-take {A = ℕ}, units_half c.args.bytes.now)
