use Rattle.std.proofs.Common.{◌≡◌, ◌∙◌, sym, ap, subst, arith, OnOk}
use Rattle.oid_sets.specs.Joins.{all_added}
use Rattle.oid_sets.proofs.Joined.{few, none_added, one_added, six_or_more}
use Rattle.oid_sets.proofs.addresses.+add_list.Goals as goal

pub returns-in_default : goal.returns-in_default
returns-in_default t c =
    let below = c.in_default.len_below in
    none_added c.args.there.now.items ∙ sym (ap (all_added c.args.there.now.items) (few c.args.list.now (omega (arith, below))))

pub returns-in_ok-add-in-len6-up : goal.returns-in_ok-add-in-len6-up
returns-in_ok-add-in-len6-up t c =
    let least = c.in-len6-up.len_at_least in
    let same = one_added _ _ _ _ c.in_ok-add-in-len6-up.ensures ∙ ap (all_added c.args.there.now.items) (sym (six_or_more c.args.list.now (omega (arith, least)))) in
    subst (λ ws. OnOk c.add_list.result (c.add_list.new.there.items ≡ ws)) same c.add_list.ensures
