use Rattle.std.proofs.Common.{◌≡◌, ◌-◌, ap, ◌∙◌, sym, true, false, arith}
use Rattle.std.proofs.lemmas.List.{get_or_read}
use Rattle.nd_mem.specs.Regions.{holds}
use Rattle.nd_mem.proofs.Order.{held_by, held_by_none}
use Rattle.nd_mem.proofs.regions.holder_of.Goals as goal
use Rattle.nd_mem.proofs.regions.holder_of.Goals.{else-begun-gt0-via-then-begun-gt0+else-holds, else-begun-gt0-via-else-begun-gt0}

pub returns-then-holds : goal.returns-then-holds
returns-then-holds c =
    let region = c.index-regions-begun.result in
    let here : holds region c.args.at.0 ≡ true = sym c.holds.ensures ∙ c.if-holds.true in
    held_by c.args.regions.now c.args.at.0 (c.count_again-begun.result - 1) region c.requires (omega (arith, c.count_again-begun.ensures.most)) (ap (λ r. holds r c.args.at.0) (sym c.index-regions-begun.is) ∙ here)

pub returns-else-begun-gt0 : goal.returns-else-begun-gt0
returns-else-begun-gt0 c =
    held_by_none c.args.regions.now c.args.at.0 c.count_again-begun.result c.requires c.count_again-begun.ensures.most c.count_again-begun.ensures.begun
    (λ d some.
    elim c.else-begun-gt0.branch [
      | else-begun-gt0-via-then-begun-gt0+else-holds w ↦
          let region = w.index-regions-begun.result in
          let here : holds region c.args.at.0 ≡ false = sym w.holds.ensures ∙ w.if-holds.false in
          ap (λ r. holds r c.args.at.0) (sym (get_or_read c.args.regions.now (c.count_again-begun.result - 1) region (omega (arith, c.count_again-begun.ensures.most)) w.index-regions-begun.is d)) ∙ here
      | else-begun-gt0-via-else-begun-gt0 w ↦ absurd (omega (arith, w.if-begun-gt0))
    ])
