use Rattle.std.proofs.Common.{rules, ◌∙◌}
use Rattle.std.specs.Ordering.{nat_cmp}
use Rattle.std.specs.Cmp.Lexicographic.{slice_cmp}
use Rattle.std.proofs.lemmas.Fn.{always_returns_same}
use Rattle.nd_base.proofs.Rising.{place_found, place_only}
use Rattle.nd_base.proofs.rows.place_of.Goals as goal

pub returns-clause-found : goal.returns-clause-found
returns-clause-found g c =
    let key = g.R.Keyed.key in
    let is = c.binary_search_by.ensures.position (λ row. slice_cmp nat_cmp (key row) c.args.key.now) (always_returns_same _ _ _ (λ a r h called. (search (rules, called.met), search (rules, called.met)))) in
    rw c.ok.ensures.value (place_found key c.args.rows.now c.args.key.now c.binary_search_by.result c.binary_search_by.ensures.bound is)

pub returns-clause-only : goal.returns-clause-only
returns-clause-only g c = λ rising place row lt same.
    let key = g.R.Keyed.key in
    let is = c.binary_search_by.ensures.position (λ row. slice_cmp nat_cmp (key row) c.args.key.now) (always_returns_same _ _ _ (λ a r h called. (search (rules, called.met), search (rules, called.met)))) in
    c.ok.ensures.value ∙ place_only key c.args.rows.now c.args.key.now c.binary_search_by.result c.binary_search_by.ensures.bound is rising place row lt same
