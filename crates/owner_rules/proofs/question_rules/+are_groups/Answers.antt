use Rattle.std.proofs.Common.{refl, sym, ◌∙◌}
use Rattle.owner_rules.proofs.Addresses.{groups_rest}
use Rattle.owner_rules.proofs.question_rules.+are_groups.Goals as goal

pub returns-then-a-eq1 : goal.returns-then-a-eq1
returns-then-a-eq1 t c = c.are_groups.ensures ∙ sym (groups_rest c.args.list.now _ refl c.in-len6-up.len_at_least c.if-a-eq1.true)
