use Rattle.std.proofs.Common.{rules}
use Rattle.std.proofs.lemmas.List.Sorted.{answers_always}
use Rattle.nd_base.specs.Rows.{is_below}
use Rattle.nd_base.proofs.Rising.{answer_is}
use Rattle.nd_base.proofs.rows.keys_rise.Goals as goal

pub returns : goal.returns
returns g c =
    let key = g.R.Keyed.key in
    answer_is key c.args.rows.now c.is_sorted_by.result (c.is_sorted_by.ensures.cases (λ x y. is_below (key x) (key y)) (answers_always _ _ _ (λ f a r h called. search (rules, called.met))))
